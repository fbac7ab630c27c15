use Rattle.std.proofs.Common.{◌≡◌, ◌∙◌, ℕ, ◌+◌, ◌<◌, List, [], ◌∷◌, ◌++◌, length, get_or, take, sym, ap}
use Rattle.std.proofs.lemmas.List.{take_more}
use Rattle.tg_model.specs.declared.value.Value.{Value}
use Rattle.tg_revive.proofs.begin.drafts_of.Goals as goal

-- with the draft of one more value
drafted_more : (values before after : List Value) (at : ℕ) (value draft : Value) → at < length values → value ≡ get_or values at value → before ≡ take at values → draft ≡ value → after ≡ before ++ draft ∷ [] →
    after ≡ take (at + 1) values
drafted_more values before after at value draft inside there so_far drafted pushed =
    pushed ∙ ap (λ (drafts : List Value). drafts ++ draft ∷ []) so_far ∙ ap (λ (v : Value). take at values ++ v ∷ []) (drafted ∙ there) ∙ sym (take_more values at value inside)

pub loop-value-preserved : goal.loop-value-preserved
loop-value-preserved g c =
    let value = c.value-item.result in
    drafted_more c.args.values.now c.loop-value.drafts.items c.push.new.self.items c.loop-value.value-index value c.in_ok-draft.draft c.loop-value-test.true c.value-item.is c.loop-value.invariant c.in_ok-draft.ensures c.in_ok-push.ensures.items
