-- The cells are listed by words that name them, and the walk goes by the last of these.
use Rattle.std.proofs.Common.{◌≡◌, ◌∙◌, ◌++◌, ◌∷◌, ℕ, List, map, ap, refl, sym, subst, [], ◌<◌, arith}
use Rattle.std.specs.List.{All}
use Rattle.std.proofs.lemmas.List.{map-append}
use Rattle.tg_word.specs.declared.Place.{Place}
use Rattle.tg_word.specs.Word.{place_in}
use Rattle.tg_word.proofs.Packing.{place_in-word_at}
use Rattle.tg_space.specs.SpaceList.{cell_at}
use Rattle.tg_space.specs.Soundness.{IsReference}
use Rattle.tg_space.proofs.Tables.{table_list}
use Rattle.tg_rows.specs.Rows.{references_of}
use Rattle.tg_rows.proofs.Layouts.{references_at}
use Rattle.tg_rows.proofs.Indexing.{IsListed, list_begins, list_ends, list_goes_on}
use Rattle.tg_rows.proofs.Places.{held_place}
use Rattle.tg_rows.proofs.Walks.{row_begins, slice_is}
use Rattle.tg_rows.proofs.rows.places_of.Goals as goal

pub reference_to-word-requires : goal.reference_to-word-requires
reference_to-word-requires c =
    held_place c.args.spaces.now.spaces (table_list c.args.spaces.now c.cells-left.ensures.table) c.args.from (row_begins c.args.spaces.now.spaces c.args.from c.requires.row).held

pub row-init : goal.row-init
row-init c =
    let h = c.args.spaces.now.spaces in
    let at : place_in c.reference_to-word.result ≡ c.args.from = ap place_in c.reference_to-word.ensures ∙ place_in-word_at _ c.args.from (held_place h (table_list c.args.spaces.now c.cells-left.ensures.table) c.args.from (row_begins h c.args.from c.requires.row).held) in
    subst (λ (p : Place). IsListed h c.args.from p c.cells-left.result c.new-names.result.items (map place_in c.new-words.result.items)) (sym at)
    (list_begins h c.args.from c.cells-left.result c.new-names.result.items (map place_in c.new-words.result.items) c.requires.row c.cells-left.ensures.cells c.new-names.ensures.items (ap (map place_in) c.new-words.ensures.items))

pub words-cell-requires : goal.words-cell-requires
words-cell-requires c = rw c.place_of.ensures c.row.invariant.0.row.held

pub push_names-requires : goal.push_names-requires
push_names-requires c =
    let h = c.args.spaces.now.spaces in
    let at = place_in c.row.word in
    let references : All (IsReference h) (references_of (cell_at h at)) =
    references_at h (table_list c.args.spaces.now c.cells-left.ensures.table) [] c.requires.sound at c.row.invariant.0.row.held in
    subst (All (IsReference h)) (sym (slice_is h at c.words-cell.result.now c.first_pointer-first.result (c.words-cell.ensures.words ∙ ap (cell_at h) c.place_of.ensures) c.first_pointer-first.ensures.word)) references

-- the word of one more cell
one_more : (words more : List ℕ) (word : ℕ) → more ≡ words ++ word ∷ [] → map place_in more ≡ map place_in words ++ place_in word ∷ []
one_more words more word pushed = ap (map place_in) pushed ∙ map-append place_in words (word ∷ [])

pub returns-then-cell-eq0 : goal.returns-then-cell-eq0
returns-then-cell-eq0 c =
    let h = c.args.spaces.now.spaces in
    let ends = list_ends h c.args.from (place_in c.row.word) c.row.left c.row.names.items c.push_names.new.names.items (map place_in c.row.words.items) (map place_in c.push.new.self.items) c.words-cell.result.now c.first_pointer-first.result
    (c.words-cell.ensures.words ∙ ap (cell_at h) c.place_of.ensures) c.first_pointer-first.ensures.word c.row.invariant c.in_ok-push_names.ensures (one_more c.row.words.items c.push.new.self.items c.row.word c.in_ok-push.ensures.items) c.if-cell-eq0.true in
    record { names = ends.0; cells = c.of_words.ensures ∙ ends.1 }

pub row-preserved : goal.row-preserved
row-preserved c =
    let h = c.args.spaces.now.spaces in
    (list_goes_on h c.args.from (place_in c.row.word) c.row.left c.row.names.items c.push_names.new.names.items (map place_in c.row.words.items) (map place_in c.push.new.self.items) c.words-cell.result.now c.first_pointer-first.result
    (c.words-cell.ensures.words ∙ ap (cell_at h) c.place_of.ensures) c.first_pointer-first.ensures.word c.row.invariant c.in_ok-push_names.ensures (one_more c.row.words.items c.push.new.self.items c.row.word c.in_ok-push.ensures.items) c.if-cell-eq0.false _ refl).1

-- a cell is left, since the row goes on
pub overflow_sub-left : goal.overflow_sub-left
overflow_sub-left c =
    let h = c.args.spaces.now.spaces in
    (list_goes_on h c.args.from (place_in c.row.word) c.row.left c.row.names.items c.push_names.new.names.items (map place_in c.row.words.items) (map place_in c.push.new.self.items) c.words-cell.result.now c.first_pointer-first.result
    (c.words-cell.ensures.words ∙ ap (cell_at h) c.place_of.ensures) c.first_pointer-first.ensures.word c.row.invariant c.in_ok-push_names.ensures (one_more c.row.words.items c.push.new.self.items c.row.word c.in_ok-push.ensures.items) c.if-cell-eq0.false _ refl).0

pub row-smaller : goal.row-smaller
row-smaller c = let some : 0 < c.row.left = overflow_sub-left c in omega arith
