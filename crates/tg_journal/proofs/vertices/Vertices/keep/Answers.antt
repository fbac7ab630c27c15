use Rattle.std.proofs.Common.{◌≡◌, nat_eq, None, rules}
use Rattle.std.specs.List.{filter}
use Rattle.std.proofs.lemmas.Fn.{filter_same}
use Rattle.indexmap.specs.IndexSet.{contains}
use Rattle.tg_rights.specs.RightSet.{no_rights}
use Rattle.tg_model.specs.Plain.{rights_in_row}
use Rattle.tg_journal.proofs.VertexLaws.{rise-filter, found-filter}
use Rattle.tg_journal.proofs.vertices.Vertices.keep.Goals as goal

pub invariant_of-self : goal.invariant_of-self
invariant_of-self c =
    let kept : c.retain.new.self.items ≡ filter (λ v. contains nat_eq c.args.names.now v.name) c.self.inside.items.items =
    filter_same _ _ _ (λ x b f' k. search rules) _ _ c.retain.ensures.filtered in
    rw kept (rise-filter 0 _ c.self.inside.items.items c.self.invariant)

pub returns : goal.returns
returns c =
    let kept : c.retain.new.self.items ≡ filter (λ v. contains nat_eq c.args.names.now v.name) c.self.inside.items.items =
    filter_same _ _ _ (λ x b f' k. search rules) _ _ c.retain.ensures.filtered in
    rw (kept, ← c.self.view_is) (record {
      labels = λ x y. found-filter (λ v. rights_in_row v.row y) no_rights (contains nat_eq c.args.names.now) c.self.inside.items.items x;
      values = found-filter (λ v. v.value) None (contains nat_eq c.args.names.now) c.self.inside.items.items;
    })
