use Rattle.std.proofs.Common.{◌∙◌, sym, rules}
use Rattle.tg_could.proofs.witness.trial.Trial.new.Goals as goal

pub returns : goal.returns
returns c ok g picture = record {
  subjects = picture.subjects ∙ (sym c.subjects.ensures ∙ sym (c.copied-subjects.ensures ok));
  made = search rules;
  limit = search rules;
  first = search rules;
  later = search rules;
}
