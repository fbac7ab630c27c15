-- What a walk over the cells is handed, and what its steps promise, whatever table of claims it has: what the table has won,
-- what is known of it, and what it shows where it is full, are told by three functions of the table.
use Rattle.std.specs.Prelude.{◌≡◌, ℕ, ◌*◌, ◌++◌, ◌<◌, ◌≤◌, Bool, List, drop, length, map, slice_index, take, Result, IfErr, IfOk, OnOk}
use Rattle.std.specs.List.{All, Contains}
use Rattle.tg_word.specs.declared.TheConstants.{CELLS}
use Rattle.tg_word.specs.declared.Place.{Place}
use Rattle.tg_word.specs.Word.{place_in}
use Rattle.tg_space.specs.SpaceList.{SpaceList, cells_of}
use Rattle.tg_space.specs.SpaceTable.{kept_blocks}
use Rattle.tg_space.specs.Soundness.{IsPointer, IsRootIn}
use Rattle.tg_space.specs.Targets.{all_root_targets, first_pointer, from_space, moved_word, named_by, pointers_of, root_targets_of, target_in, targets_at}
use Rattle.tg_space.specs.declared.kind.Kind.{Kind}
use Rattle.tg_space.specs.declared.root.Root.{Root}
use Rattle.tg_space.specs.declared.room_fault.RoomFault.{RoomFault}
use Rattle.tg_space.specs.declared.room_fault.RoomFault.TheVariants.{HeapFull}
use Rattle.tg_evac.specs.declared.copies.Copies.{Copies}
use Rattle.tg_evac.specs.Claims.{AreTraced, Claimed, HasFilledRoom, HavePointers, IsClaimOf, IsWinFor, chunk_targets}
use Rattle.tg_evac.specs.Claimers.{AddsWins, AreScanned, IsClaimLink, KeepsWins, KnowsMore, Walked, walked_of}

-- ---- the claim of a cell

-- the cell is one of those that are moved, and its new place is to be in Old or in Aged
pub record MayClaim {Fixed : Type 0} (w : Walked Fixed) (cell space : ℕ) : Type 0 where
  pub inside : cell < w.cells
  pub moved : CELLS * w.kept ≤ cell
  pub two : space < 2

-- the cell has a place, whose word is answered: a new one in the space, unless it had one
pub record ClaimsCell {Table Fixed : Type 0} (walked : Table → Walked Fixed) (knows : Table → (ℕ → Place) → Type 0) (is_full : Table → Type 0)
    (cell space : ℕ) (before after : Table) (result : Result ℕ RoomFault) : Type 0 where
  pub added : AddsWins (IsWinFor cell space) (walked before) (walked after)
  pub grows : KnowsMore (knows before) (knows after)
  pub met : OnOk result (Contains (walked after).met cell)
  pub known : IfOk result (λ word. (to : ℕ → Place) → knows after to → to cell ≡ place_in word)
  pub link : IfOk result IsClaimLink
  pub full : IfErr result (λ fault. fault ≡ HeapFull → is_full after)

-- the plain table has a pair of the cell with the word that is answered
pub record HasClaimed (cell space : ℕ) (before after : Claimed) (result : Result ℕ RoomFault) : Type 0 where
  pub added : AddsWins (IsWinFor cell space) (walked_of before) (walked_of after)
  pub held : IfOk result (λ word. Contains after.won (record { cell = cell; word = word }))
  pub link : IfOk result IsClaimLink
  pub full : IfErr result (λ fault. fault ≡ HeapFull → HasFilledRoom after)

-- ---- the claims of what a cell or a root names

-- the table is for a collection of this kind, of these spaces
pub record IsTableFor {Fixed : Type 0} (kind : Kind) (h : SpaceList) (w : Walked Fixed) : Type 0 where
  pub same : w.kind ≡ kind
  pub whole : w.cells ≡ length (cells_of h)
  pub kept : w.kept ≡ kept_blocks w.kind h

-- and what the cells name may be claimed
pub record MayWalk {Fixed : Type 0} (kind : Kind) (h : SpaceList) (w : Walked Fixed) : Type 0 where
  pub pointers : HavePointers h
  pub table : IsTableFor kind h w

-- these cells have places, to which they go straight or not, and nothing else was claimed
pub record ClaimsAll {Table Fixed T : Type 0} (walked : Table → Walked Fixed) (knows : Table → (ℕ → Place) → Type 0) (is_full : Table → Type 0)
    (h : SpaceList) (straight : Bool) (cells : List ℕ) (before after : Table) (result : Result T RoomFault) : Type 0 where
  pub added : AddsWins (IsClaimOf h straight cells) (walked before) (walked after)
  pub grows : KnowsMore (knows before) (knows after)
  pub met : OnOk result (All (Contains (walked after).met) cells)
  pub full : IfErr result (λ fault. fault ≡ HeapFull → is_full after)

-- the targets of a root have places
abbrev pub ClaimsRoot : {Table Fixed T : Type 0} → (Table → Walked Fixed) → (Table → (ℕ → Place) → Type 0) → (Table → Type 0)
    → SpaceList → Bool → Root → Table → Table → Result T RoomFault → Type 0
ClaimsRoot walked knows is_full h straight root before after result =
    ClaimsAll walked knows is_full h straight (root_targets_of (from_space (walked before).kind) h root) before after result

-- the targets of the cell at a place
abbrev pub ClaimsTargetsAt : {Table Fixed T : Type 0} → (Table → Walked Fixed) → (Table → (ℕ → Place) → Type 0) → (Table → Type 0)
    → SpaceList → Bool → Place → Table → Table → Result T RoomFault → Type 0
ClaimsTargetsAt walked knows is_full h straight place before after result =
    ClaimsAll walked knows is_full h straight (targets_at (from_space (walked before).kind) h place) before after result

-- the targets of the chunks to which a link leads, up to one that is moved
abbrev pub ClaimsChunks : {Table Fixed T : Type 0} → (Table → Walked Fixed) → (Table → (ℕ → Place) → Type 0) → (Table → Type 0)
    → SpaceList → Bool → ℕ → Table → Table → Result T RoomFault → Type 0
ClaimsChunks walked knows is_full h straight link before after result =
    ClaimsAll walked knows is_full h straight (chunk_targets (from_space (walked before).kind) h (length (cells_of h)) link) before after result

-- the target of one word
abbrev pub ClaimsTargetOf : {Table Fixed T : Type 0} → (Table → Walked Fixed) → (Table → (ℕ → Place) → Type 0) → (Table → Type 0)
    → SpaceList → Bool → ℕ → Table → Table → Result T RoomFault → Type 0
ClaimsTargetOf walked knows is_full h straight word before after result =
    ClaimsAll walked knows is_full h straight (target_in (from_space (walked before).kind) h word) before after result

-- what a cell with these words names
abbrev pub ClaimsNamedBy : {Table Fixed T : Type 0} → (Table → Walked Fixed) → (Table → (ℕ → Place) → Type 0) → (Table → Type 0)
    → SpaceList → Bool → List ℕ → Table → Table → Result T RoomFault → Type 0
ClaimsNamedBy walked knows is_full h straight cell before after result =
    ClaimsAll walked knows is_full h straight (named_by (from_space (walked before).kind) h (pointers_of cell)) before after result

-- ---- the copy of a cell

-- what these words name may be claimed
pub record MayMove {Fixed : Type 0} (kind : Kind) (h : SpaceList) (words : List ℕ) (w : Walked Fixed) : Type 0 where
  pub pointers : All (IsPointer h) words
  pub table : IsTableFor kind h w

-- what the words of a cell name from the first of these on is claimed, and they are moved under whatever map agrees with all that is
-- known
pub record MovesFrom {Table Fixed T : Type 0} (walked : Table → Walked Fixed) (knows : Table → (ℕ → Place) → Type 0) (is_full : Table → Type 0)
    (h : SpaceList) (straight : Bool) (first : ℕ) (cell copy : List ℕ) (before after : Table) (result : Result T RoomFault) : Type 0 where
  pub claims : ClaimsAll walked knows is_full h straight (named_by (from_space (walked before).kind) h (drop first cell)) before after result
  pub long : length copy ≡ 8
  pub image : OnOk result ((to : ℕ → Place) → knows after to → copy ≡ take first cell ++ map (moved_word (from_space (walked before).kind) h to) (drop first cell))

-- a cell becomes its copy: its words are moved from its first pointer on
abbrev pub MovesCell : {Table Fixed T : Type 0} → (Table → Walked Fixed) → (Table → (ℕ → Place) → Type 0) → (Table → Type 0)
    → SpaceList → Bool → List ℕ → List ℕ → Table → Table → Result T RoomFault → Type 0
MovesCell walked knows is_full h straight cell copy before after result =
    MovesFrom walked knows is_full h straight (first_pointer (slice_index cell 0)) cell copy before after result

-- a word is moved under whatever map agrees with all that is known after a claim
abbrev pub IsMovedWord : {Table Fixed : Type 0} → (Table → Walked Fixed) → (Table → (ℕ → Place) → Type 0) → SpaceList → ℕ → ℕ → Table → Table → Type 0
IsMovedWord walked knows h word moved before after =
    (to : ℕ → Place) → knows after to → moved ≡ moved_word (from_space (walked before).kind) h to word

-- ---- the scan of what was won

-- what was won till now is traced from roots, and so many of the won cells were scanned
pub record IsUnderWay {Table Fixed : Type 0} (walked : Table → Walked Fixed) (knows : Table → (ℕ → Place) → Type 0)
    (kind : Kind) (h : SpaceList) (table : Table) (scanned : ℕ) (aged old : List (List ℕ)) : Type 0 where
  pub walk : MayWalk kind h (walked table)
  pub traced : (roots : List Root) × AreTraced (walked table).kind h roots (walked table).won
  pub copies : AreScanned h (walked table) (knows table) scanned aged old

-- more was won, and nothing that is known is forgotten
pub record WalkGoesOn {Table Fixed T : Type 0} (walked : Table → Walked Fixed) (knows : Table → (ℕ → Place) → Type 0) (is_full : Table → Type 0)
    (before after : Table) (result : Result T RoomFault) : Type 0 where
  pub keeps : KeepsWins (walked before) (walked after)
  pub grows : KnowsMore (knows before) (knows after)
  pub full : IfErr result (λ fault. fault ≡ HeapFull → is_full after)

-- and it is traced from the roots from which what was won before is; then so many are scanned
pub record Scans {Table Fixed T : Type 0} (walked : Table → Walked Fixed) (knows : Table → (ℕ → Place) → Type 0) (is_full : Table → Type 0)
    (h : SpaceList) (before after : Table) (scanned : ℕ) (aged old : List (List ℕ)) (result : Result T RoomFault) : Type 0 where
  pub goes : WalkGoesOn walked knows is_full before after result
  pub traced : (roots : List Root) → AreTraced (walked before).kind h roots (walked before).won → AreTraced (walked before).kind h roots (walked after).won
  pub copies : OnOk result (AreScanned h (walked after) (knows after) scanned aged old)

-- all that was won is scanned
abbrev pub ScansAll : {Table Fixed T : Type 0} → (Table → Walked Fixed) → (Table → (ℕ → Place) → Type 0) → (Table → Type 0)
    → SpaceList → Table → Table → List (List ℕ) → List (List ℕ) → Result T RoomFault → Type 0
ScansAll walked knows is_full h before after aged old result =
    Scans walked knows is_full h before after (length (walked after).won) aged old result

-- ---- the walk along roots

-- what was won before is traced from these roots or more, and so many of it were scanned
pub record MayWalkAlong {Table Fixed : Type 0} (walked : Table → Walked Fixed) (knows : Table → (ℕ → Place) → Type 0)
    (kind : Kind) (h : SpaceList) (along : List Root) (table : Table) (count : ℕ) (aged old : List (List ℕ)) : Type 0 where
  pub walk : MayWalk kind h (walked table)
  pub roots : All (IsRootIn h) along
  pub traced : (all : List Root) × ((root : Root) → Contains along root → Contains all root) × AreTraced (walked table).kind h all (walked table).won
  pub scanned : AreScanned h (walked table) (knows table) count aged old

-- what the roots name is met, and all that was won is traced from them and scanned
pub record WalksAlong {Table Fixed T : Type 0} (walked : Table → Walked Fixed) (knows : Table → (ℕ → Place) → Type 0) (is_full : Table → Type 0)
    (h : SpaceList) (along : List Root) (before after : Table) (count : ℕ) (aged old : List (List ℕ)) (result : Result T RoomFault) : Type 0 where
  pub traced : (all : List Root) → ((root : Root) → Contains along root → Contains all root) → AreTraced (walked before).kind h all (walked before).won → AreTraced (walked before).kind h all (walked after).won
  pub goes : WalkGoesOn walked knows is_full before after result
  pub met : OnOk result (All (Contains (walked after).met) (all_root_targets (from_space (walked before).kind) h along))
  pub scanned : OnOk result (AreScanned h (walked after) (knows after) (length (walked after).won) aged old)
  pub ended : OnOk result (count ≡ length (walked after).won)

-- the same, with the copies that were made before and that were made then
abbrev pub MayWalkRoots : {Table Fixed : Type 0} → (Table → Walked Fixed) → (Table → (ℕ → Place) → Type 0) → Kind → SpaceList → List Root → Table → Copies → Type 0
MayWalkRoots walked knows kind h roots table copies =
    MayWalkAlong walked knows kind h roots table copies.scanned copies.aged copies.old

abbrev pub WalksRoots : {Table Fixed T : Type 0} → (Table → Walked Fixed) → (Table → (ℕ → Place) → Type 0) → (Table → Type 0)
    → SpaceList → List Root → Table → Table → Copies → Result T RoomFault → Type 0
WalksRoots walked knows is_full h roots before after copies result =
    WalksAlong walked knows is_full h roots before after copies.scanned copies.aged copies.old result
