use Rattle.std.proofs.Common.{◌≡◌, ◌∙◌, ◌++◌, List, [], ℕ, IfOk, ap, append-nil, append_assoc, drop, refl, rules, subst, sym, take, take-append-drop}
use Rattle.std.proofs.lemmas.List.{nil_from_length}
use Rattle.tg_saved.specs.Texts.{snapshot_text}
use Rattle.tg_saved.proofs.text.read_lines.Goals as goal

-- the front of what is left was read
split_more : (text front rest line behind : List ℕ) (len : ℕ) → text ≡ front ++ rest → line ≡ take len rest → behind ≡ drop len rest → text ≡ (front ++ line) ++ behind
split_more text front rest line behind len was is left =
    was ∙ ap (λ (x : List ℕ). front ++ x) (sym (take-append-drop len rest) ∙ ap (λ (x : List ℕ). x ++ drop len rest) (sym is) ∙ ap (λ (x : List ℕ). line ++ x) (sym left))
    ∙ sym (append_assoc front line behind)

pub loop-number-init : goal.loop-number-init
loop-number-init g c = ([], (refl, refl))

pub loop-number-preserved : goal.loop-number-preserved
loop-number-preserved g c =
    let was = c.loop-number.invariant in
    let split = c.split_at in (
      was.0 ++ split.result.0.now,
      (
        split_more c.args.text.now was.0 c.loop-number.rest.now split.result.0.now split.result.1.now _ was.1.0 split.ensures.front split.ensures.back,
        c.in_ok-next.ensures was.0 was.1.1,
      ),
    )

pub returns-then-is_empty : goal.returns-then-is_empty
returns-then-is_empty g c =
    let was = c.loop-number.invariant in
    let none : c.loop-number.rest.now ≡ [] = nil_from_length c.loop-number.rest.now (search rules) in
    let whole : c.args.text.now ≡ was.0 = was.1.0 ∙ ap (λ (x : List ℕ). was.0 ++ x) none ∙ append-nil was.0 in
    subst (λ (x : List ℕ). IfOk c.ended.result (λ snapshot. x ≡ snapshot_text snapshot)) (sym whole) (c.ended.ensures was.0 was.1.1)
