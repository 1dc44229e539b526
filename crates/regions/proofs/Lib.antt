pub mod RegionsLaws
