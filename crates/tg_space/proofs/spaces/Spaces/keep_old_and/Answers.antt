use Rattle.std.proofs.Common.{rules, ◌≡◌, ◌<◌, ◌++◌, ◌∙◌, ℕ, ap, get_or, length, subst, sym, take, drop, arith}
use Rattle.std.proofs.lemmas.List.{get_or_read}
use Rattle.tg_space.specs.SpaceList.{SpaceList, IsEmptyFrom, IsSpace, space_of}
use Rattle.tg_space.specs.SpaceTable.{SpaceTable, IsFreeBehind, IsSpaceTable, IsPrefixCount, adopted, used_of, with_adopted}
use Rattle.tg_space.specs.declared.kind.Kind.TheVariants.{Nursery}
use Rattle.tg_space.proofs.Tables.{counted_anew, adopted_long, nurseries_adopted, free_behind, put_behind_is, table_adopted}
use Rattle.tg_space.proofs.spaces.Spaces.keep_old_and.Goals as goal

-- src/spaces.rt:329:5
pub invariant_of-self-2 : goal.invariant_of-self-2
invariant_of-self-2 c =
    let t : SpaceTable = record { spaces = c.self.inside.spaces.items; used = c.self.inside.used.items; limits = c.self.inside.limits } in
    let after : SpaceTable = with_adopted t Nursery c.args.aged c.args.old in
    let now : SpaceList = c.put_behind.new.spaces in
    let is : now ≡ adopted Nursery t.spaces c.args.aged c.args.old = search rules in
    let same : take c.self.inside.spaces.len (now ++ drop (length now) c.self.inside.spaces.items) ≡ after.spaces =
    put_behind_is t.spaces now c.args.aged c.args.old c.self.inside.spaces.len c.self.invariant.0.enough c.self.inside.spaces.ok.0 is in
    let used : c.fill.new.self.items ≡ after.used = search rules in
    let first : IsSpace (space_of t.spaces 0 ++ c.args.old) = search rules in
    let second : IsSpace c.args.aged = search rules in
    let table : IsSpaceTable after = table_adopted t c.args.aged c.args.old c.self.invariant.0 first second in
    counted_anew t after c.self.inside.starts.items c.count_old_and_aged.new.starts c.self.inside.starts.len _ c.fill.new.self.items c.self.invariant.1 c.self.inside.starts.ok.0
    (adopted_long t.spaces c.args.aged c.args.old (omega (arith, c.self.invariant.0.enough))) table same used
    (subst (λ (h : SpaceList). IsPrefixCount c.count_old_and_aged.new.starts h) c.deref.ensures.value c.count_old_and_aged.ensures)

-- src/spaces.rt:329:5
pub returns-clause-table : goal.returns-clause-table
returns-clause-table c = (invariant_of-self-2 c).0

pub count_old_and_aged-requires-clause-empty : goal.count_old_and_aged-requires-clause-empty
count_old_and_aged-requires-clause-empty c =
    let h : SpaceList = c.self.inside.spaces.items in
    let is : c.put_behind.new.spaces ≡ adopted Nursery h c.args.aged c.args.old = search rules in
    let put = put_behind_is h c.put_behind.new.spaces c.args.aged c.args.old c.self.inside.spaces.len c.self.invariant.0.enough c.self.inside.spaces.ok.0 is in
    subst (IsEmptyFrom 2) (sym (c.deref.ensures.value ∙ put)) (nurseries_adopted h c.args.aged c.args.old (omega (arith, c.self.invariant.0.enough)))

pub keep_only-requires : goal.keep_only-requires
keep_only-requires c =
    let t : SpaceTable = record { spaces = c.self.inside.spaces.items; used = c.self.inside.used.items; limits = c.self.inside.limits } in
    let table = c.self.invariant.0 in
    let inside : 2 < length t.spaces = omega (arith, table.enough) in
    let count = c.index-used.result.now in let at = c.nursery_space.result in
    let read : count ≡ get_or t.used at 0 = get_or_read t.used at count (omega (arith, c.nursery_space.ensures, table.counted, inside)) c.index-used.ensures 0 in
    let used : count ≡ used_of t 2 = read ∙ ap (λ (n : ℕ). get_or t.used n 0) c.nursery_space.ensures in
    let nursery : c.in_ok-emptied.emptied.nursery ≡ space_of t.spaces 2 = c.in_ok-emptied.ensures.nursery ∙ ap (λ (h : SpaceList). space_of h 2) c.deref_mut.ensures.value in
    subst (IsFreeBehind count) (sym nursery) (subst (λ (n : ℕ). IsFreeBehind n (space_of t.spaces 2)) (sym used) (free_behind t 2 table (omega arith) inside))
