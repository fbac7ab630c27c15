use Rattle.std.proofs.Common.{refl}
use Rattle.clap.specs.Matches.{matched_of, found_of}
use Rattle.tgcould.specs.Policies.{IsKeptPolicy}
use Rattle.tgcould.proofs.OptionLaws.{all_values}
use Rattle.tgcould.proofs.answers.Answers.add_all.Goals as goal

pub returns : goal.returns
returns c = record {
  before = c.add_each.ensures.before;
  kept = λ zero must.
      all_values (IsKeptPolicy c.args.scene.now.picture.now c.args.scene.now.silent.now) c.get_strs.result _ c.unwrap_or-values.result
      (matched_of (found_of c.args.matches.now) c.args.option.now) c.unwrap_or-values.ensures refl c.get_strs.ensures (c.add_each.ensures.kept zero must);
}
