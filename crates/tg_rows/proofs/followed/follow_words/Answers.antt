-- The words before the loop's are those of where their cells are now, and the others are still the old ones.
use Rattle.std.proofs.Common.{ℕ, ◌<◌, ◌≤◌, List, ◌++◌, length, get_or, set, drop, map, sym, ap, subst, arith, ◌∙◌}
use Rattle.std.proofs.lemmas.List.{append-nil, drop_all, get_or_default, take_all}
use Rattle.std.proofs.lemmas.List.Edits.{map_over_more}
use Rattle.tg_space.specs.Targets.{from_space}
use Rattle.tg_word.specs.Word.{place_in}
use Rattle.tg_space.specs.Numbering.{IsNumbered, followed_word}
use Rattle.tg_rows.proofs.Members.{still_at}
use Rattle.tg_rows.proofs.followed.follow_words.Goals as goal

pub link-requires : goal.link-requires
link-requires c =
    let starts = c.args.moves.numbering.now.starts in
    let forward = c.args.moves.forward.now.words in
    let same = still_at ℕ (followed_word (from_space c.args.moves.kind) starts forward) c.args.words.now c.loop-word.words c.loop-word.word-index 0 c.loop-word.invariant c.loop-word-test.true in
    subst (λ word. IsNumbered starts (length forward) (place_in word)) (sym same) (c.requires c.loop-word.word-index 0 c.loop-word-test.true)

pub loop-word-preserved : goal.loop-word-preserved
loop-word-preserved c =
    let f = followed_word (from_space c.args.moves.kind) c.args.moves.numbering.now.starts c.args.moves.forward.now.words in
    let ys = c.loop-word.words in
    let i = c.loop-word.word-index in
    let x = get_or ys i 0 in
    let low : i < length ys = omega arith in
    ap (λ (word : ℕ). set ys i word) c.link.ensures
    ∙ map_over_more f c.args.words.now ys i x c.loop-word-test.true c.loop-word.invariant (get_or_default ys i 0 x low)

pub returns : goal.returns
returns c =
    let f = followed_word (from_space c.args.moves.kind) c.args.moves.numbering.now.starts c.args.moves.forward.now.words in
    let xs = c.args.words.now in
    let i = c.loop-word.word-index in
    let past : length xs ≤ i = c.loop-word-test.false in
    c.loop-word.invariant
    ∙ ap (λ (zs : List ℕ). map f zs ++ drop i xs) (take_all i xs past)
    ∙ ap (λ (zs : List ℕ). map f xs ++ zs) (drop_all i xs past)
    ∙ append-nil (map f xs)
