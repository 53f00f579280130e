-- What the client is told, step by step.
use Rattle.std.proofs.Common.{◌≡◌, ◌++◌, ◌∷◌, inl, inr, ℕ, Bool, List, [], refl, ap, sym, ◌∙◌, append_assoc}
use Rattle.std.proofs.lemmas.List.{append-nil}
use Rattle.sml_client.specs.Answers.{OnlyTells, TellsOf, notice, notices}

pub tells_nothing : (a : List ℕ) → OnlyTells a a
tells_nothing a = ([], sym (append-nil a))

pub tells_once : (a b p : List ℕ) → b ≡ a ++ notice p → OnlyTells a b
tells_once a b p e = (p ∷ [], e ∙ ap (λ l. a ++ l) (sym (append-nil (notice p))))

joined : (ps qs : List (List ℕ)) → notices (ps ++ qs) ≡ notices ps ++ notices qs
joined [] qs = refl
joined (p ∷ ps) qs = ap (λ l. notice p ++ l) (joined ps qs) ∙ sym (append_assoc (notice p) (notices ps) (notices qs))

pub tells_both : (a b d : List ℕ) → OnlyTells a b → OnlyTells b d → OnlyTells a d
tells_both a b d h k = (
  h.0 ++ k.0,
  k.1 ∙ ap (λ l. l ++ notices k.0) h.1 ∙ append_assoc a (notices h.0) (notices k.0) ∙ ap (λ l. a ++ l) (sym (joined h.0 k.0)),
)

pub tells_of : (p : List ℕ) (is_needed : Bool) (a b : List ℕ) → TellsOf p is_needed a b → OnlyTells a b
tells_of p is_needed a b (inl e) = tells_once a b p e
tells_of p is_needed a b (inr h) = ([], h.1 ∙ sym (append-nil a))

pub tells_as : (a b d : List ℕ) → d ≡ b → OnlyTells a b → OnlyTells a d
tells_as a b d e h = (h.0, e ∙ h.1)
