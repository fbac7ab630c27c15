-- What is asked of a walk along roots, and what it promises of the pairs that are won.
use Rattle.std.specs.Prelude.{ℕ, List, length}
use Rattle.std.specs.List.{Contains}
use Rattle.tg_word.specs.declared.Place.{Place}
use Rattle.tg_space.specs.SpaceList.{SpaceList}
use Rattle.tg_space.specs.declared.kind.Kind.{Kind}
use Rattle.tg_space.specs.declared.root.Root.{Root}
use Rattle.tg_evac.specs.Win.{Win}
use Rattle.tg_evac.specs.Claims.{AreTraced}
use Rattle.tg_evac.specs.Claimers.{AreScanned, Walked}

-- the pairs are traced from these roots, or from more
abbrev pub AreTracedFromMore : Kind → SpaceList → List Root → List Win → Type 0
AreTracedFromMore kind h along won = (all : List Root) × ((root : Root) → Contains along root → Contains all root) × AreTraced kind h all won

-- from whatever roots the pairs were traced, these among them, all that are won then are traced too
abbrev pub StaysTraced : {Fixed : Type 0} → SpaceList → List Root → Walked Fixed → Walked Fixed → Type 0
StaysTraced h along before after =
    (all : List Root) → ((root : Root) → Contains along root → Contains all root) → AreTraced before.kind h all before.won → AreTraced before.kind h all after.won

-- all pairs were scanned
abbrev pub AreAllScanned : {Fixed : Type 0} → SpaceList → Walked Fixed → ((ℕ → Place) → Type 0) → List (List ℕ) → List (List ℕ) → Type 0
AreAllScanned h w knows aged old = AreScanned h w knows (length w.won) aged old
