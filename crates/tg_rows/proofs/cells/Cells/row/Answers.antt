use Rattle.std.proofs.Common.{◌∙◌, ◌<◌, ℕ, List, subst, rules}
use Rattle.std.specs.List.Sorted.{IsPermutation}
use Rattle.std.proofs.lemmas.List.Elements.{All-contains}
use Rattle.std.proofs.lemmas.List.Sorted.{IsNonDecreasingBy-from_sort_by_key}
use Rattle.tg_rights.specs.RightSet.{RightSet}
use Rattle.tg_space.proofs.Tables.{table_list}
use Rattle.tg_rows.specs.Rows.{name_at, name_in, row_words}
use Rattle.tg_rows.specs.Graph.{content_in}
use Rattle.tg_rows.proofs.Finding.{label_is_read, target_named, words_are_references}
use Rattle.tg_rows.proofs.Listing.{listing_is}
use Rattle.tg_rows.proofs.cells.Cells.row.Goals as goal

pub returns : goal.returns
returns g c =
    λ n below.
    let h = c.args.self.now.spaces.spaces in
    let payloads = c.args.self.now.payloads in
    let from = c.args.from in
    let is = table_list c.args.self.now.spaces c.in_ok-edges.ensures.table in
    let edges = c.sort_unstable_by_key.new.self.items in
    let permuted = subst (λ (es : List (ℕ × RightSet)). IsPermutation es edges) c.in_ok-edges.ensures.edges c.sort_unstable_by_key.ensures.permutation in
    let sorted = IsNonDecreasingBy-from_sort_by_key (λ e. e.0) edges c.sort_unstable_by_key.ensures.sorted (λ a r q k. search rules) in
    c.from_vec.ensures
    ∙ listing_is h (row_words h from) (content_in h payloads).label (name_at h from) n edges
    (label_is_read h payloads is c.requires.graph from c.requires.object) (words_are_references h payloads is c.requires.graph from c.requires.object) (c.requires.graph.targets from c.requires.object)
    (λ word has some. All-contains (λ x. x < n) (content_in h payloads).names (name_in h word) below (target_named h payloads is c.requires.graph from c.requires.object word has some))
    permuted sorted
