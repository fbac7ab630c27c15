-- What a collection has to keep: the cells that the roots reach along references and links.
use Rattle.std.specs.Prelude.{◌≡◌, ℕ, ◌<◌, ◌⊎◌, List, ◌++◌, length, slice_index}
use Rattle.std.specs.List.{All, Contains}
use Rattle.tg_model.specs.Walks.{Walk}

-- the closure of the roots: the least set of cells that holds these roots and the targets of its own cells
abbrev pub IsInClosure : List ℕ → (ℕ → List ℕ) → ℕ → Type 0
IsInClosure roots targets c = Walk (λ r. Contains roots r) (λ d t. Contains (targets d) t) c

-- each cell of the list is a root or a target of an earlier one
abbrev pub IsTraced : List ℕ → (ℕ → List ℕ) → List ℕ → Type 0
IsTraced roots targets won =
    (k : ℕ) → k < length won →
    Contains roots (slice_index won k) ⊎ ((j : ℕ) × (j < k) × Contains (targets (slice_index won j)) (slice_index won k))

-- every target of one of the first n cells of the list is in the list
abbrev pub IsClosed : (ℕ → List ℕ) → List ℕ → ℕ → Type 0
IsClosed targets won n = (k : ℕ) → k < n → All (Contains won) (targets (slice_index won k))

-- the roots are in the list, and so are the targets of its cells
abbrev pub IsComplete : List ℕ → (ℕ → List ℕ) → List ℕ → Type 0
IsComplete roots targets won =
    All (Contains won) roots × IsClosed targets won (length won)
