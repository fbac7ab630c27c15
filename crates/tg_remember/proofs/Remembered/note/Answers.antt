use Rattle.std.proofs.Common.{ap, sym, ◌∙◌, inl, inr, ◌<◌, subst, map, Contains, ◌⊎◌, ◌↔◌, ◌≡◌}
use Rattle.tg_remember.specs.Notes.{place_of_key}
use Rattle.tg_remember.proofs.NoteLemmas.{noted-keys, list_any-Decides, list_any-keys, Contains-noted, IsOk-where_found}
use Rattle.tg_remember.proofs.Remembered.note.Goals as goal

pub unwrap-requires : goal.unwrap-requires
unwrap-requires c =
    let listed = ap (λ notes. notes.places) c.self.view_is in
    elim c.requires [
      | inl room ↦ c.insert.ensures.succeeds (subst (λ notes. 0 < notes.spare) (sym c.self.view_is) room)
      | inr there ↦
          IsOk-where_found c.insert.result _
          (list_any-keys c.self.inside.keys.keys c.args.self.now.places c.key_of.result c.args.place (ap place_of_key c.key_of.ensures) listed
          ∙ (list_any-Decides c.args.place c.args.self.now.places).1 there)
          c.insert.ensures.absent
    ]

is_noted : goal.returns-clause-noted
is_noted c =
    ap (λ keys. map place_of_key keys) (rw c.unwrap.ensures at c.insert.ensures.keys)
    ∙ noted-keys c.self.inside.keys.keys c.args.self.now.places c.key_of.result c.args.place (ap place_of_key c.key_of.ensures) (ap (λ notes. notes.places) c.self.view_is)

pub returns-clause-noted : goal.returns-clause-noted
returns-clause-noted c = is_noted c

pub returns-clause-members : goal.returns-clause-members
returns-clause-members c =
    subst
    (λ places. (q : _) → Contains places q ↔ (Contains c.args.self.now.places q ⊎ (q ≡ c.args.place)))
    (sym (is_noted c))
    (Contains-noted c.args.self.now.places c.args.place)
