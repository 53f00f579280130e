-- The faults of one mark after another.
use Rattle.std.proofs.Common.{◌≡◌, ℕ, ◌+◌, ◌<◌, ◌≤◌, Bool, List, [], ◌∷◌, ◌++◌, get_or, take, drop, length, reverse, sym, ap, ◌∙◌, append_assoc, append-nil}
use Rattle.std.proofs.lemmas.List.{drop_more, take_more, reverse-append, drop_all}
use Rattle.sml_tree.specs.Trees.{Id}
use Rattle.sml_flaws.specs.declared.mark.Mark.{Mark}
use Rattle.sml_flaws.specs.declared.flaw.Flaw.{Flaw}
use Rattle.sml_reach.specs.Fits.{Fit}
use Rattle.sml_flaws.specs.Known.{is_again}
use Rattle.sml_flaws.specs.Flaws.{flaws_by, flaws_of}

pub one_taken : {A : Type 0} (xs : List A) (i : ℕ) (d : A) → i < length xs → reverse (take (i + 1) xs) ≡ get_or xs i d ∷ reverse (take i xs)
one_taken xs i d within = ap reverse (take_more xs i d within) ∙ reverse-append (take i xs) (get_or xs i d ∷ [])

pub flaws_on : (text : ℕ → Id) (fits : List Fit) (all old new : List Flaw) (marks : List Mark) (i : ℕ) (d : Mark) (again : Bool) → all ≡ old ++ flaws_of text fits (reverse (take i marks)) (drop i marks) → i < length marks → new ≡ old ++ flaws_by text fits (get_or marks i d ∷ reverse (take i marks)) (get_or marks i d) again → again ≡ is_again text (reverse (take i marks)) (get_or marks i d) → all ≡ new ++ flaws_of text fits (reverse (take (i + 1) marks)) (drop (i + 1) marks)
flaws_on text fits all old new marks i d again kept within n a =
    let before = reverse (take i marks) in
    let m = get_or marks i d in
    let more = flaws_of text fits (m ∷ before) (drop (i + 1) marks) in
    kept ∙ ap (λ ms. old ++ flaws_of text fits before ms) (drop_more marks i d within)
    ∙ ap (λ b. old ++ (flaws_by text fits (m ∷ before) m b ++ more)) (sym a)
    ∙ sym (append_assoc old (flaws_by text fits (m ∷ before) m again) more)
    ∙ ap (λ fs. fs ++ more) (sym n)
    ∙ ap (λ bs. new ++ flaws_of text fits bs (drop (i + 1) marks)) (sym (one_taken marks i d within))

pub flaws_end : (text : ℕ → Id) (fits : List Fit) (all old : List Flaw) (marks before : List Mark) (i : ℕ) → all ≡ old ++ flaws_of text fits before (drop i marks) → length marks ≤ i → old ≡ all
flaws_end text fits all old marks before i kept past = sym (kept ∙ ap (λ ms. old ++ flaws_of text fits before ms) (drop_all i marks past) ∙ append-nil old)
