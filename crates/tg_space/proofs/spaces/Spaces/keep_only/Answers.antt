use Rattle.std.proofs.Common.{rules, ◌≡◌, ◌++◌, [], ◌∙◌, length, subst, sym, take, drop, arith}
use Rattle.tg_space.specs.SpaceList.{SpaceList, IsEmptyFrom}
use Rattle.tg_space.specs.SpaceTable.{SpaceTable, IsSpaceTable, IsPrefixCount, adopted, with_adopted}
use Rattle.tg_space.specs.declared.kind.Kind.TheVariants.{Full}
use Rattle.tg_space.proofs.Tables.{counted_anew, kept_long, nurseries_kept, put_alone_is, table_kept}
use Rattle.tg_space.proofs.spaces.Spaces.keep_only.Goals as goal

-- src/spaces.rt:329:5
pub invariant_of-self : goal.invariant_of-self
invariant_of-self c =
    let t : SpaceTable = record { spaces = c.self.inside.spaces.items; used = c.self.inside.used.items; limits = c.self.inside.limits } in
    let after : SpaceTable = with_adopted t Full [] c.args.old in
    let now : SpaceList = c.put_alone-emptied.new.spaces in
    let is : now ≡ adopted Full t.spaces [] c.args.old = search rules in
    let same : take c.self.inside.spaces.len (now ++ drop (length now) c.self.inside.spaces.items) ≡ after.spaces =
    put_alone_is t.spaces now c.args.old c.self.inside.spaces.len c.self.invariant.0.enough c.self.inside.spaces.ok.0 is in
    let used : c.fill.new.self.items ≡ after.used = search rules in
    let table : IsSpaceTable after = table_kept t c.args.old c.self.invariant.0 c.put_alone-emptied.ensures.whole in
    counted_anew t after c.self.inside.starts.items c.count_old_and_aged.new.starts c.self.inside.starts.len _ c.fill.new.self.items c.self.invariant.1 c.self.inside.starts.ok.0
    (kept_long t.spaces c.args.old (omega (arith, c.self.invariant.0.enough))) table same used
    (subst (λ (h : SpaceList). IsPrefixCount c.count_old_and_aged.new.starts h) c.deref.ensures.value c.count_old_and_aged.ensures)

-- src/spaces.rt:329:5
pub returns-clause-table : goal.returns-clause-table
returns-clause-table c = (invariant_of-self c).0

pub count_old_and_aged-requires-clause-empty : goal.count_old_and_aged-requires-clause-empty
count_old_and_aged-requires-clause-empty c =
    let h : SpaceList = c.self.inside.spaces.items in
    let is : c.put_alone-emptied.new.spaces ≡ adopted Full h [] c.args.old = search rules in
    let put = put_alone_is h c.put_alone-emptied.new.spaces c.args.old c.self.inside.spaces.len c.self.invariant.0.enough c.self.inside.spaces.ok.0 is in
    subst (IsEmptyFrom 2) (sym (c.deref.ensures.value ∙ put)) (nurseries_kept h c.args.old (omega (arith, c.self.invariant.0.enough)))
