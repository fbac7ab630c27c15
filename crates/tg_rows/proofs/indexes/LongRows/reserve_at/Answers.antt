use Rattle.std.proofs.Common.{◌≡◌, ◌∙◌, ◌<◌, ◌≤◌, Bool, Some, inl, cond, true, length, nat_eq, refl, sym, ap, subst}
use Rattle.std.specs.Map.{lookup}
use Rattle.std.proofs.lemmas.Bool.Decides.{Decides-eqb}
use Rattle.std.proofs.lemmas.Cmp.{nat_eq_equiv}
use Rattle.std.proofs.lemmas.Option.{slice_get_within}
use Rattle.indexmap.proofs.CallerLemmas.{updates-with_value_at}
use Rattle.indexmap.specs.Layout.{set_value_at}
use Rattle.tg_rows.specs.Inner.Following.{HasRoomIn}
use Rattle.tg_rows.specs.Index.{AreIndexed, HasIndexAt, Indexes, IsAged, SameIndexed}
use Rattle.tg_rows.proofs.Ages.{aged_at, row_there, same_row, written_aged, written_there}
use Rattle.tg_rows.proofs.Results.{success_gives}
use Rattle.tg_rows.proofs.IndexedRows.{indexes_replaced, written_indexed}
use Rattle.std.proofs.lemmas.Bool.{false≢true}
use Rattle.tg_rows.proofs.indexes.LongRows.reserve_at.Goals as goal

pub unreachable-requires : goal.unreachable-requires
unreachable-requires c =
    let es = c.self.inside.indexes.entries in
    let was : HasIndexAt es c.args.name c.args.at = subst (λ (s : Indexes). HasIndexAt s.entries c.args.name c.args.at) (sym c.self.view_is) c.requires.there in
    let low : c.args.at < length es = slice_get_within es c.args.at (c.args.name, was.row) was.here in
    false≢true (rw c.in-None.is at (c.get_index_mut.ensures.found.1 low))

pub invariant_of-self : goal.invariant_of-self
invariant_of-self c =
    let es = c.self.inside.indexes.entries in
    let was : HasIndexAt es c.args.name c.args.at = subst (λ (s : Indexes). HasIndexAt s.entries c.args.name c.args.at) (sym c.self.view_is) c.requires.there in
    let behind : c.self.inside.old_rows ≤ c.args.at = subst (λ (s : Indexes). s.old_rows ≤ c.args.at) (sym c.self.view_is) c.requires.young in
    let low : c.args.at < length es = slice_get_within es c.args.at (c.args.name, was.row) was.here in
    let next = c.reserve.new.self in
    let aged = subst IsAged (sym (same_row es c.args.name c.args.at was c.in-Some.row.now c.in-Some.ensures.value)) (aged_at es c.self.inside.old_rows c.self.invariant c.args.name c.args.at was) in
    written_aged es (set_value_at es c.args.at next) c.self.inside.old_rows c.args.at low c.self.invariant next refl (c.reserve.ensures.kept.aged aged) (inl behind)

pub returns : goal.returns
returns c =
    let es = c.self.inside.indexes.entries in
    let was : HasIndexAt es c.args.name c.args.at = subst (λ (s : Indexes). HasIndexAt s.entries c.args.name c.args.at) (sym c.self.view_is) c.requires.there in
    let behind : c.self.inside.old_rows ≤ c.args.at = subst (λ (s : Indexes). s.old_rows ≤ c.args.at) (sym c.self.view_is) c.requires.young in
    let next = c.reserve.new.self in
    let written = updates-with_value_at c.self.inside.indexes c.args.at next nat_eq_equiv c.get_index_mut.ensures.unique c.args.name was.row was.here in
    let first : SameIndexed c.args.self.now.entries es = subst (λ (s : Indexes). SameIndexed c.args.self.now.entries s.entries) (sym c.self.view_is) (λ x. refl) in
    let same : nat_eq c.args.name c.args.name ≡ true = (Decides-eqb c.args.name c.args.name).1 refl in
    let found : lookup (nat_eq c.args.name) (set_value_at es c.args.at next) ≡ Some next = written.0 c.args.name ∙ ap (λ (b : Bool). cond b (Some next) (lookup (nat_eq c.args.name) es)) same in
    record {
      ready = success_gives c.reserve.result (λ (room : HasRoomIn next). record { here = record { row = next; here = written_there es c.args.name c.args.at was next; found = found }; behind = behind; room = room }) c.reserve.ensures.room;
      indexed = λ h places indexed.
          indexes_replaced es (set_value_at es c.args.at next) c.args.name c.in-Some.row.now next (row_there es c.args.name c.args.at was c.in-Some.row.now c.in-Some.ensures.value) written.0 c.reserve.ensures.kept.kept c.reserve.ensures.kept.marked h places
          (subst (λ (s : Indexes). AreIndexed h places s.entries) (sym c.self.view_is) indexed);
      names = written_indexed c.args.self.now.entries es c.args.at next first;
    }
