use Rattle.std.proofs.Common.{◌≡◌, ◌∙◌, None, nat_eq, sym, subst, ℕ, Some, cond}
use Rattle.std.specs.Map.{lookup}
use Rattle.indexmap.proofs.CallerLemmas.{insert_entry-new}
use Rattle.tg_rows.specs.Index.{AreAged, Indexes}
use Rattle.tg_rows.proofs.Ages.{Entries, one_added}
use Rattle.tg_rows.proofs.indexes.LongRows.add.Goals as goal

pub invariant_of-self : goal.invariant_of-self
invariant_of-self c =
    let absent : lookup (nat_eq c.args.name) c.self.inside.indexes.entries ≡ None = subst (λ (s : Indexes). lookup (nat_eq c.args.name) s.entries ≡ None) (sym c.self.view_is) c.requires.absent in
    let entries = rw c.unwrap.ensures at c.insert.ensures.entries in
    subst (λ (es : Entries). AreAged es c.self.inside.old_rows) (sym (entries ∙ insert_entry-new nat_eq c.self.inside.indexes c.args.name c.args.row absent))
    (one_added c.self.inside.indexes.entries c.self.inside.old_rows c.self.invariant c.args.name c.args.row c.requires.aged)

pub returns : goal.returns
returns c =
    let updates = rw c.unwrap.ensures at c.insert.ensures.updates in
    subst (λ (s : Indexes). (q : ℕ) → lookup (nat_eq q) c.insert.new.self.entries ≡ cond (nat_eq c.args.name q) (Some c.args.row) (lookup (nat_eq q) s.entries)) c.self.view_is updates.0
