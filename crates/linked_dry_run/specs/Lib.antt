pub mod LinkedDryRun
