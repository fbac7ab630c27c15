use Rattle.std.proofs.Common.{◌≡◌, ◌∙◌, sym}
use Rattle.tg_store.specs.Store.{StoreState, graph_of_store}
use Rattle.tg_shared.proofs.Knowing.{graph_is}
use Rattle.tg_shared.proofs.laws.what_is_left_is_counted.Goals as goal

pub returns : goal.returns
returns c = λ start seen kind number left.
    let old : StoreState = left.0 in
    let new : StoreState = left.3.1.0 in
    let same : graph_of_store old ≡ graph_of_store new = graph_is start old seen left.3.0 left.1 ∙ sym (graph_is start new seen left.3.1.3.0 left.3.1.1) in
    (new, left.3.1.1, left.3.1.2, (left.3.1.3.0, record { vertices = left.3.1.3.1.number; reachable = left.3.1.3.1.reachable (graph_of_store new) same }))
