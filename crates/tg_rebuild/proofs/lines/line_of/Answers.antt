use Rattle.std.proofs.Common.{rules}
use Rattle.std.proofs.lemmas.List.Sorted.{answers_always}
use Rattle.tg_rebuild.proofs.LineLaws.{line_found}
use Rattle.tg_rebuild.proofs.lines.line_of.Goals as goal

-- the closure gives a vertex's name
pub returns : goal.returns
returns c =
    let facts = c.binary_search_by_key.ensures in
    let by_key = facts.position (λ v. v.name) (answers_always _ _ _ (λ f a r g called. search rules)) in
    rw c.ok.ensures.value (line_found c.args.vertices.now c.requires c.args.name c.binary_search_by_key.result facts.bound by_key)
