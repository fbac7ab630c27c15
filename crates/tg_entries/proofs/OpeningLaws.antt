-- Openings whose parts are the same.
use Rattle.std.proofs.Common.{◌≡◌, ◌∙◌, ℕ, List, ap}
use Rattle.tg_model.specs.declared.edge.Edge.{Edge}
use Rattle.tg_model.specs.declared.value.Value.{Value}
use Rattle.tg_entries.specs.Texts.{opening_text}

-- the same opening, part by part
pub opening_same : (workers workers' limit limit' : ℕ) (values values' : List Value) (edges edges' : List Edge) → workers ≡ workers' → limit ≡ limit' →
    values ≡ values' → edges ≡ edges' → opening_text workers limit values edges ≡ opening_text workers' limit' values' edges'
opening_same workers workers' limit limit' values values' edges edges' p q r s =
    ap (λ (x : ℕ). opening_text x limit values edges) p ∙ ap (λ (x : ℕ). opening_text workers' x values edges) q
    ∙ ap (λ (x : List Value). opening_text workers' limit' x edges) r ∙ ap (λ (x : List Edge). opening_text workers' limit' values' x) s
