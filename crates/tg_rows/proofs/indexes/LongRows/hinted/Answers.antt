use Rattle.std.proofs.Common.{◌≡◌, ◌∙◌, ℕ, Some, ap, nat_eq, slice_get, subst, sym}
use Rattle.std.specs.Map.{lookup}
use Rattle.tg_rows.specs.Index.{HasIndexAt, Indexes}
use Rattle.tg_rows.proofs.indexes.LongRows.hinted.Goals as goal

pub returns-then-key-name : goal.returns-then-key-name
returns-then-key-name c =
    let entries = c.self.inside.indexes.entries in
    let at = c.in_ok-at.field-0.now in
    let row = c.in_ok-key.field-0-1.now in
    let is : c.in_ok-key.key.now ≡ c.args.name = c.if-key-name.true in
    let here : slice_get entries at ≡ Some (c.args.name, row) = sym c.in_ok-key.ensures.entry ∙ ap (λ (n : ℕ). Some (n, row)) is in
    let found : lookup (nat_eq c.args.name) entries ≡ Some row = subst (λ (n : ℕ). lookup (nat_eq n) entries ≡ Some row) is c.in_ok-key.ensures.value in
    subst (λ (s : Indexes). HasIndexAt s.entries c.args.name at) c.self.view_is (record { row = row; here = here; found = found })
