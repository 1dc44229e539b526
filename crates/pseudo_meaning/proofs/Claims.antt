-- P11 whole (document 02): by name, the forms that mean what they say, and those that fail. Assumes nothing.
use Rattle.std.specs.Prelude.{◌≡◌, refl, true, false, Some}
use Rattle.jobs.specs.declared.Job.{Job}
use Rattle.record.specs.Bytes.{same_bytes}
use Rattle.record.specs.Texts.{bytes_of}
use Rattle.pseudo_names.specs.declared.Pseudo.TheVariants.{Abs, BranchCustom, SetCustom, Seq, Sne}
use Rattle.pseudo_names.specs.PseudoNames.{pseudo_in, pseudo_of}
use Rattle.pseudo_meaning.specs.Lines.{LineInBuild}
use Rattle.pseudo_meaning.specs.Meaning.{BranchMeans, SetMeans, AbsMeans}
use Rattle.pseudo_meaning.specs.Stops.{BranchStops, SetStops, SeqStops, SneStops}
use Rattle.pseudo_meaning.proofs.BranchMeansLaws.{branch_means}
use Rattle.pseudo_meaning.proofs.SetMeansLaws.{set_means}
use Rattle.pseudo_meaning.proofs.AbsMeansLaws.{abs_means}
use Rattle.pseudo_meaning.proofs.StopsLaws.{branch_stops, set_stops, seq_stops, sne_stops}
use Rattle.pseudo_meaning.proofs.Failing.{Failing, failing}

-- which pseudo-instruction each name is
pub record Names : Type 0 where
  pub blt : pseudo_of (bytes_of "blt") ≡ Some (BranchCustom false true false)
  pub bgt : pseudo_of (bytes_of "bgt") ≡ Some (BranchCustom true true false)
  pub ble : pseudo_of (bytes_of "ble") ≡ Some (BranchCustom true false false)
  pub bge : pseudo_of (bytes_of "bge") ≡ Some (BranchCustom false false false)
  pub bltu : pseudo_of (bytes_of "bltu") ≡ Some (BranchCustom false true true)
  pub bgtu : pseudo_of (bytes_of "bgtu") ≡ Some (BranchCustom true true true)
  pub bleu : pseudo_of (bytes_of "bleu") ≡ Some (BranchCustom true false true)
  pub bgeu : pseudo_of (bytes_of "bgeu") ≡ Some (BranchCustom false false true)
  pub sge : pseudo_of (bytes_of "sge") ≡ Some (SetCustom false false false)
  pub sgt : pseudo_of (bytes_of "sgt") ≡ Some (SetCustom true true false)
  pub sle : pseudo_of (bytes_of "sle") ≡ Some (SetCustom true false false)
  pub sgeu : pseudo_of (bytes_of "sgeu") ≡ Some (SetCustom false false true)
  pub sgtu : pseudo_of (bytes_of "sgtu") ≡ Some (SetCustom true true true)
  pub sleu : pseudo_of (bytes_of "sleu") ≡ Some (SetCustom true false true)
  pub seq : pseudo_of (bytes_of "seq") ≡ Some Seq
  pub sne : pseudo_of (bytes_of "sne") ≡ Some Sne
  pub abs : pseudo_of (bytes_of "abs") ≡ Some Abs

pub names : Names
unfolding pseudo_in same_bytes
names = record { blt = refl; bgt = refl; ble = refl; bge = refl; bltu = refl; bgtu = refl; bleu = refl; bgeu = refl; sge = refl; sgt = refl; sle = refl; sgeu = refl; sgtu = refl; sleu = refl; seq = refl; sne = refl; abs = refl }

-- Holds for every line in every build, whatever their jobs.
pub record Claims (site : LineInBuild) : Type 0 where
  -- these mean what they say
  pub blt : BranchMeans site false true
  pub bgt : BranchMeans site true true
  pub ble : BranchMeans site true false
  pub bge : BranchMeans site false false
  pub sge : SetMeans site false false
  pub sgt : SetMeans site true true
  pub sle : SetMeans site true false
  pub abs : AbsMeans site
  -- these stop, and where
  pub bltu : BranchStops site false true
  pub bgtu : BranchStops site true true
  pub bleu : BranchStops site true false
  pub bgeu : BranchStops site false false
  pub sgeu : SetStops site false false
  pub sgtu : SetStops site true true
  pub sleu : SetStops site true false
  pub seq : SeqStops site
  pub sne : SneStops site
  -- "A form that fails this gets a failing run shown instead."
  pub fails : (job : Job) → Failing job

pub claims : (site : LineInBuild) → Claims site
claims site = record {
  blt = branch_means site false true;
  bgt = branch_means site true true;
  ble = branch_means site true false;
  bge = branch_means site false false;
  sge = set_means site false false;
  sgt = set_means site true true;
  sle = set_means site true false;
  abs = abs_means site;
  bltu = branch_stops site false true;
  bgtu = branch_stops site true true;
  bleu = branch_stops site true false;
  bgeu = branch_stops site false false;
  sgeu = set_stops site false false;
  sgtu = set_stops site true true;
  sleu = set_stops site true false;
  seq = seq_stops site;
  sne = sne_stops site;
  fails = failing;
}
