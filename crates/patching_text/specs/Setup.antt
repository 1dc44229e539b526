-- What every turn uses, in the form that the definitions take. Assumes nothing.
use Rattle.patching_text.specs.Script.{Given, script_given}
use Rattle.patching_text.specs.declared.Setup.{Setup}

abbrev pub given_by : Setup → Given
given_by setup = script_given setup.job setup.labels.now setup.entry.now setup.descriptors.now
