use Rattle.std.proofs.Common.{◌≡◌, ◌∙◌, ◌∷◌, ◌++◌, [], List, ℕ, ap, drop, refl, sym, append_assoc}
use Rattle.tg_rights.specs.RightSet.{has, letter_if, letter_of, letters_in}
use Rattle.tg_rights.specs.declared.Right.{Right}
use Rattle.tg_rights.specs.declared.Right.TheVariants.{R, W, T, G, A, L, U, V}
use Rattle.tg_text.proofs.reply.spell_rights.Goals as goal

-- a letter in front of what is spelt
in_front : (letter later rest before now : List ℕ) → now ≡ letter ++ before → before ≡ later ++ rest → now ≡ (letter ++ later) ++ rest
in_front letter later rest before now here so = here ∙ ap (λ (text : List ℕ). letter ++ text) so ∙ sym (append_assoc letter later rest)

pub returns-clause-spelt : goal.returns-clause-spelt
returns-clause-spelt c =
    let s = c.args.rights in
    let own : Right → List ℕ = λ x. letter_if (has s x) (letter_of x) in
    let rest = drop c.args.end c.args.text.now in
    let v = in_front (own V) [] rest _ _ c.spell_held-v.ensures.spelt refl in
    let u = in_front (own U) (letters_in s (V ∷ [])) rest _ _ c.spell_held-u.ensures.spelt v in
    let l = in_front (own L) (letters_in s (U ∷ V ∷ [])) rest _ _ c.spell_held-l.ensures.spelt u in
    let a = in_front (own A) (letters_in s (L ∷ U ∷ V ∷ [])) rest _ _ c.spell_held-a.ensures.spelt l in
    let g = in_front (own G) (letters_in s (A ∷ L ∷ U ∷ V ∷ [])) rest _ _ c.spell_held-g.ensures.spelt a in
    let t = in_front (own T) (letters_in s (G ∷ A ∷ L ∷ U ∷ V ∷ [])) rest _ _ c.spell_held-t.ensures.spelt g in
    let w = in_front (own W) (letters_in s (T ∷ G ∷ A ∷ L ∷ U ∷ V ∷ [])) rest _ _ c.spell_held-w.ensures.spelt t in
    in_front (own R) (letters_in s (W ∷ T ∷ G ∷ A ∷ L ∷ U ∷ V ∷ [])) rest _ _ c.spell_held.ensures.spelt w
