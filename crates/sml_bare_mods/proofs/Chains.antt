-- Signature expressions with what stands after `where type`, and structure expressions with constraints after them,
-- one after the other.
use Rattle.std.proofs.Common.{◌≡◌, ℕ, ◌≤◌, List, [], ◌∷◌, ◌++◌, map, max, suc, reverse, false, Err, refl, ap, sym, ◌∙◌, arith}
use Rattle.std.proofs.lemmas.List.{reverse-append}
use Rattle.sml_lex.specs.declared.fault.Place.{Place}
use Rattle.sml_tree.specs.Heights.{sig_height, str_height, ty_height}
use Rattle.sml_tree.specs.Signatures.{SigExp, WhereType, where_type}
use Rattle.sml_tree.specs.Structures.{StrExp, ascribed}
use Rattle.sml_tree.specs.Clauses.{Constraint}
use Rattle.sml_derived.specs.Derived.{where_types}
use Rattle.sml_phrases.specs.PhraseHeights.{low}
use Rattle.sml_phrases.specs.Phrases.{Phrase, of_sig}
use Rattle.sml_phrases.specs.PhraseViews.{Gives, Puts}
use Rattle.sml_bare_mods.specs.StructureRules.{constrained, str_place}
use Rattle.sml_phrases.specs.declared.phrase.Failure.{Failure}
use Rattle.sml_phrases.specs.declared.phrase.Failure.TheVariants.{TooHigh, Memory}

where_types_grow : (p : Place) (s : SigExp Place) (ws : List (WhereType Place)) → sig_height s ≤ sig_height (where_types p s ws)
where_types_grow p s [] = omega arith
where_types_grow p s (w ∷ ws) = let h = where_types_grow p (where_type p s w) ws in omega (arith, h)

pub still_high : (m n : ℕ) → m ≤ n → low m ≡ false → low n ≡ false
still_high m n below high = grind (arith, below, high)

-- one equation more
pub next_equation : {A : Type 0} (g : A → WhereType Place) (p : Place) (old new whole : SigExp Place) (left rest : List A) (w : A)
    → left ≡ rest ++ w ∷ [] → new ≡ where_type p old (g w) → where_types p old (map g (reverse left)) ≡ whole → where_types p new (map g (reverse rest)) ≡ whole
next_equation g p old new whole left rest w popped made e =
    ap (λ s. where_types p s (map g (reverse rest))) made
    ∙ ap (λ ws. where_types p old (map g ws)) (sym (reverse-append rest (w ∷ [])))
    ∙ ap (λ ws. where_types p old (map g (reverse ws))) (sym popped)
    ∙ e

-- an equation that makes it too high
pub high_equation : {A : Type 0} (g : A → WhereType Place) (p : Place) (old whole : SigExp Place) (left rest : List A) (w : A)
    → left ≡ rest ++ w ∷ [] → low (suc (max (sig_height old) (ty_height (g w).ty))) ≡ false → where_types p old (map g (reverse left)) ≡ whole → low (sig_height whole) ≡ false
high_equation g p old whole left rest w popped high e =
    let next = next_equation g p old (where_type p old (g w)) whole left rest w popped refl e in
    let grown = where_types_grow p (where_type p old (g w)) (map g (reverse rest)) in
    still_high (sig_height (where_type p old (g w))) (sig_height whole) (rw next at grown) high

-- the failure of one equation more is that of the whole
pub failed_equation : {A B : Type 0} (view : B → SigExp Place) (g : A → WhereType Place) (p : Place) (old whole : SigExp Place) (left rest : List A) (w : A) (failure : Failure)
    → left ≡ rest ++ w ∷ [] → Gives view (λ s. low (sig_height s)) (where_type p old (g w)) (Err failure) → where_types p old (map g (reverse left)) ≡ whole → Gives view (λ s. low (sig_height s)) whole (Err failure)
failed_equation view g p old whole left rest w TooHigh popped high e = high_equation g p old whole left rest w popped high e
failed_equation view g p old whole left rest w Memory popped high e = tt

-- a signature expression that is too high makes it too high with equations after it
pub failed_signature : {A : Type 0} (view : A → SigExp Place) (p : Place) (s : SigExp Place) (ws : List (WhereType Place)) (n : ℕ) (old new : List Phrase) (failure : Failure)
    → Gives view (λ s. low (sig_height s)) s (Err failure) → Puts (of_sig (where_types p s ws)) n old new (Err failure)
failed_signature view p s ws n old new TooHigh high = still_high (sig_height s) (sig_height (where_types p s ws)) (where_types_grow p s ws) high
failed_signature view p s ws n old new Memory high = tt

-- structure expressions with constraints after them

constrained_grow : (e : StrExp Place) (cs : List (Constraint Place)) → str_height e ≤ str_height (constrained e cs)
constrained_grow e [] = omega arith
constrained_grow e (c ∷ cs) = let h = constrained_grow (ascribed (str_place e) e c.ascription c.signature) cs in omega (arith, h)

-- one constraint more
pub next_constraint : {A : Type 0} (g : A → Constraint Place) (old new whole : StrExp Place) (left rest : List A) (c : A)
    → left ≡ rest ++ c ∷ [] → new ≡ ascribed (str_place old) old (g c).ascription (g c).signature → constrained old (map g (reverse left)) ≡ whole → constrained new (map g (reverse rest)) ≡ whole
next_constraint g old new whole left rest c popped made e =
    ap (λ s. constrained s (map g (reverse rest))) made
    ∙ ap (λ cs. constrained old (map g cs)) (sym (reverse-append rest (c ∷ [])))
    ∙ ap (λ cs. constrained old (map g (reverse cs))) (sym popped)
    ∙ e

-- the failure of one constraint more is that of the whole
pub failed_constraint : {A B : Type 0} (view : B → StrExp Place) (g : A → Constraint Place) (old whole : StrExp Place) (left rest : List A) (c : A) (failure : Failure)
    → left ≡ rest ++ c ∷ [] → (q : Place) → Gives view (λ s. low (str_height s)) (ascribed q old (g c).ascription (g c).signature) (Err failure) → constrained old (map g (reverse left)) ≡ whole → Gives view (λ s. low (str_height s)) whole (Err failure)
failed_constraint view g old whole left rest c TooHigh popped q high e =
    let one = ascribed (str_place old) old (g c).ascription (g c).signature in
    let next = next_constraint g old one whole left rest c popped refl e in
    let grown = constrained_grow one (map g (reverse rest)) in
    still_high (str_height one) (str_height whole) (rw next at grown) high
failed_constraint view g old whole left rest c Memory popped q high e = tt
