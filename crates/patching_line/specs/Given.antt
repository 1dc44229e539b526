-- A line's inputs besides the lent lists, in the form that the definitions take. Assumes nothing.
use Rattle.patching_outcome.specs.Line.{LineGiven}
use Rattle.patching_line.specs.Contract.{given_of}
use Rattle.patching_line.specs.declared.Line.{Line}

abbrev pub given_by : Line → LineGiven
given_by line = given_of line.lists.tokens.now line.lists.mnemonic.now line.lists.descriptors.now line.position line.region
