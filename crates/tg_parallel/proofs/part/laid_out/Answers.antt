use Rattle.std.proofs.Common.{◌≡◌, ℕ, ◌<◌, ◌+◌, List, [], ◌∷◌, ◌++◌, length, get_or, drop, ap, sym, subst, arith, ◌∙◌, ⊎_elim}
use Rattle.std.proofs.lemmas.Bool.{cases_lt}
use Rattle.std.proofs.lemmas.List.{drop-drop, get_or-drop, get_or_append_left, get_or_push, length_push, map-append, take_all, take_more}
use Rattle.tg_block.specs.Cells.{free_block}
use Rattle.tg_parallel.specs.Parts.{Numbered, numbers_of}
use Rattle.tg_parallel.specs.Seats.{block_at}
use Rattle.tg_parallel.proofs.part.laid_out.Goals as goal

-- each block, after one more
block_more : (blocks : List (List (List ℕ))) (laid : Numbered) (n i j : ℕ) (block : List (List ℕ)) → length laid ≡ i → ((k : ℕ) → k < i → block_at laid k ≡ get_or blocks k free_block) → block ≡ get_or (drop i blocks) 0 free_block → j < i + 1 →
    block_at (laid ++ (n, block) ∷ []) j ≡ get_or blocks j free_block
block_more blocks laid n i j block long each is low =
    ⊎_elim
    (λ earlier. ap (λ (b : ℕ × List (List ℕ)). b.1) (get_or_append_left laid ((n, block) ∷ []) (0, []) j (omega (arith, earlier, long))) ∙ each j earlier)
    (λ later.
    let at : i + 0 ≡ j = omega (arith, later, low) in
    ap (λ (b : ℕ × List (List ℕ)). b.1) (get_or_push laid (n, block) (0, []) j (omega (arith, at, long)))
    ∙ is ∙ get_or-drop i blocks 0 free_block ∙ ap (λ (k : ℕ). get_or blocks k free_block) at)
    (cases_lt j i)

pub loop-number-preserved : goal.loop-number-preserved
loop-number-preserved c =
    let before = c.loop-number.invariant in let numbers = c.args.numbers.now in let blocks = c.args.blocks in let i = c.loop-number.number-index in
    let laid = c.loop-number.laid.items in let block = c.in_ok-block.block in let n = get_or numbers i 0 in
    let pushed : c.push_reserved.new.self.items ≡ laid ++ (n, block) ∷ [] = c.push_reserved.ensures.items in
    record {
      room = let same = c.push_reserved.ensures.capacity in omega (arith, before.room);
      long = ap length pushed ∙ length_push laid (n, block) ∙ ap (λ (k : ℕ). k + 1) before.long;
      numbered = ap numbers_of pushed ∙ map-append (λ (b : ℕ × List (List ℕ)). b.0) laid ((n, block) ∷ []) ∙ ap (λ (ns : List ℕ). ns ++ n ∷ []) before.numbered ∙ sym (take_more numbers i 0 c.loop-number-test.true);
      each = λ j low.
          subst (λ (ls : Numbered). block_at ls j ≡ get_or blocks j free_block) (sym pushed)
          (block_more blocks laid n i j block before.long before.each (c.in_ok-block.ensures.block ∙ ap (λ (bs : List (List (List ℕ))). get_or bs 0 free_block) before.rest) low);
      rest = c.in_ok-block.ensures.rest ∙ ap (λ (bs : List (List (List ℕ))). drop 1 bs) before.rest ∙ drop-drop 1 i blocks;
    }

pub returns-clause-numbered : goal.returns-clause-numbered
returns-clause-numbered c = c.loop-number.invariant.numbered ∙ take_all _ _ c.loop-number-test.false
