-- Signature, structure and functor bindings with what belongs to them, and those after them.
use Rattle.std.proofs.Common.{◌≡◌, ℕ, ◌+◌, ◌≤◌, List, [], ◌∷◌, ◌++◌, Bool, map, max, drop, reverse, Result, refl, ap, sym, ◌∙◌, arith}
use Rattle.sml_lex.specs.declared.fault.Place.{Place}
use Rattle.sml_tree.specs.Clauses.{Constraint}
use Rattle.sml_tree.specs.Heights.{highest, fun_bind_height, sig_bind_height, sig_height, specs_height, str_binds_height, str_height}
use Rattle.sml_tree.specs.Names.{Name}
use Rattle.sml_tree.specs.Signatures.{SigExp, Specs, WhereType}
use Rattle.sml_tree.specs.Structures.{FunBind, SigBind, StrBind, StrBinds, StrDec, StrExp, and_str_bind, str_bind}
use Rattle.sml_tree.specs.StructureViews.{str_bind_layer, str_bind_of, str_binds_of, str_dec_layer, str_layer, str_of}
use Rattle.sml_tree.specs.TypeViews.{name_of}
use Rattle.sml_tree.specs.declared.names.Name as ProgramName
use Rattle.sml_tree.specs.declared.structures.StrExp as ProgramStr
use Rattle.sml_tree.specs.declared.structures.StrDec.TheFolds.{fold-roll-StrBind}
use Rattle.sml_tree.specs.declared.structures.StrBind as Program
use Rattle.sml_tree.specs.declared.structures.StrBind.{roll-StrBind}
use Rattle.sml_derived.specs.Derived.{open_functor}
use Rattle.sml_phrases.specs.Phrases.{Phrase, of_begun_fun_bind, of_begun_functor, of_begun_sig_bind, of_begun_str_bind, at, first, fun_binds_in, fun_constraints_in, sig_binds_in, sig_wheres_in, str_binds_in, str_constraints_in}
use Rattle.sml_phrases.specs.PhraseViews.{Gives}
use Rattle.sml_phrases.specs.declared.phrase.Failure.{Failure}
use Rattle.sml_bare_mods.proofs.Pushes.{pushed}
use Rattle.sml_bare_mods.specs.SignatureRules.{sig_binds, with_wheres}
use Rattle.sml_bare_mods.specs.StructureRules.{constrained, fun_binds, own_constrained, str_binds}

pub gives_same : {A B : Type 0} (view : A → B) (within : B → Bool) (v w : B) (r : Result A Failure) → v ≡ w → Gives view within v r → Gives view within w r
gives_same view within v w r e given = rw (sym e) given

pub own_grows : (p : Place) (own : List (Constraint Place)) (e : StrExp Place) → str_height e ≤ str_height (own_constrained p own e)
own_grows p [] e = omega arith
own_grows p (c ∷ cs) e = omega arith

-- signature bindings

pub sig_bind_made : (v a : List Phrase) (x : Name Place) (s whole : SigExp Place) (ws : List (WhereType Place)) (bs : List (SigBind Place))
    → of_begun_sig_bind x s ≡ first v → a ≡ drop 1 v → ws ≡ sig_wheres_in (first a) → bs ≡ sig_binds_in (first a) → whole ≡ with_wheres s ws
    → record { name = x; signature = whole } ∷ bs ≡ sig_binds (at v 0) (at v 1)
sig_bind_made v a x s whole ws bs h p ws-is bs-is made =
    ap (λ z. record { name = x; signature = z } ∷ bs) (made ∙ ap (with_wheres s) (ws-is ∙ ap (λ l. sig_wheres_in (first l)) p))
    ∙ ap (λ z. record { name = x; signature = with_wheres s (sig_wheres_in (at v 1)) } ∷ z) (bs-is ∙ ap (λ l. sig_binds_in (first l)) p)
    ∙ ap (λ f. sig_binds f (at v 1)) h

pub sig_bind_within : (v a : List Phrase) (x : Name Place) (s : SigExp Place) (ws : List (WhereType Place)) (bs : List (SigBind Place))
    → of_begun_sig_bind x s ≡ first v → a ≡ drop 1 v → ws ≡ sig_wheres_in (first a) → bs ≡ sig_binds_in (first a)
    → sig_height (with_wheres s ws) ≤ highest sig_bind_height (sig_binds (at v 0) (at v 1))
sig_bind_within v a x s ws bs h p ws-is bs-is =
    let e = ap (highest sig_bind_height) (sig_bind_made v a x s (with_wheres s ws) ws bs h p ws-is bs-is refl) in omega (arith, e)

-- structure bindings

pub str_bind_made : (v a : List Phrase) (x : Name Place) (own cs : List (Constraint Place)) (e whole : StrExp Place) (bs : StrBinds Place)
    → of_begun_str_bind x own e ≡ first v → a ≡ drop 1 v → cs ≡ str_constraints_in (first a) → bs ≡ str_binds_in (first a) → whole ≡ own_constrained x.place own (constrained e cs)
    → and_str_bind (str_bind x whole) bs ≡ str_binds (at v 0) (at v 1)
str_bind_made v a x own cs e whole bs h p cs-is bs-is made =
    ap (λ z. and_str_bind (str_bind x z) bs) (made ∙ ap (λ z. own_constrained x.place own (constrained e z)) (cs-is ∙ ap (λ l. str_constraints_in (first l)) p))
    ∙ ap (λ z. and_str_bind (str_bind x (own_constrained x.place own (constrained e (str_constraints_in (at v 1))))) z) (bs-is ∙ ap (λ l. str_binds_in (first l)) p)
    ∙ ap (λ f. str_binds f (at v 1)) h

pub str_bind_within : (v a : List Phrase) (x : Name Place) (own cs : List (Constraint Place)) (e : StrExp Place) (bs : StrBinds Place)
    → of_begun_str_bind x own e ≡ first v → a ≡ drop 1 v → cs ≡ str_constraints_in (first a) → bs ≡ str_binds_in (first a)
    → str_height (own_constrained x.place own (constrained e cs)) ≤ str_binds_height (str_binds (at v 0) (at v 1))
str_bind_within v a x own cs e bs h p cs-is bs-is =
    let k = ap str_binds_height (str_bind_made v a x own cs e _ bs h p cs-is bs-is refl) in omega (arith, k)

str_bind_of-parts : (x : ProgramName.Name) (e : ProgramStr.StrExp) → str_bind_of (roll-StrBind (record { name = x; body = e })) ≡ str_bind (name_of x) (str_of e)
str_bind_of-parts x e = fold-roll-StrBind (StrDec Place) (StrExp Place) (StrBind Place) str_dec_layer str_layer str_bind_layer (record { name = x; body = e })

-- the program's structure bindings with one more in front, and how high they are
pub str_bind_pushed : (old new : List Program.StrBind) (x : ProgramName.Name) (e : ProgramStr.StrExp)
    → new ≡ old ++ roll-StrBind (record { name = x; body = e }) ∷ []
    → str_binds_of (map str_bind_of (reverse new)) ≡ and_str_bind (str_bind (name_of x) (str_of e)) (str_binds_of (map str_bind_of (reverse old)))
str_bind_pushed old new x e grown =
    ap str_binds_of (pushed str_bind_of old new _ grown) ∙ ap (λ b. and_str_bind b (str_binds_of (map str_bind_of (reverse old)))) (str_bind_of-parts x e)

pub str_bind_measured : (old new : List Program.StrBind) (x : ProgramName.Name) (e : ProgramStr.StrExp) (h k m : ℕ)
    → new ≡ old ++ roll-StrBind (record { name = x; body = e }) ∷ []
    → str_binds_height (str_binds_of (map str_bind_of (reverse old))) ≡ h → str_height (str_of e) ≡ k → m ≡ max h k
    → str_binds_height (str_binds_of (map str_bind_of (reverse new))) ≡ m
str_bind_measured old new x e h k m grown high one most =
    let made = ap str_binds_height (str_bind_pushed old new x e grown) in omega (arith, made, high, one, most)

-- functor bindings

pub fun_bind_made : (v a : List Phrase) (f x : Name Place) (s : SigExp Place) (own cs : List (Constraint Place)) (e whole : StrExp Place) (bs : List (FunBind Place))
    → of_begun_fun_bind f x s own e ≡ first v → a ≡ drop 1 v → cs ≡ fun_constraints_in (first a) → bs ≡ fun_binds_in (first a) → whole ≡ own_constrained f.place own (constrained e cs)
    → record { name = f; argument = x; signature = s; body = whole } ∷ bs ≡ fun_binds (at v 0) (at v 1)
fun_bind_made v a f x s own cs e whole bs h p cs-is bs-is made =
    ap (λ z. record { name = f; argument = x; signature = s; body = z } ∷ bs) (made ∙ ap (λ z. own_constrained f.place own (constrained e z)) (cs-is ∙ ap (λ l. fun_constraints_in (first l)) p))
    ∙ ap (λ z. record { name = f; argument = x; signature = s; body = own_constrained f.place own (constrained e (fun_constraints_in (at v 1))) } ∷ z) (bs-is ∙ ap (λ l. fun_binds_in (first l)) p)
    ∙ ap (λ z. fun_binds z (at v 1)) h

pub fun_bind_within : (v a : List Phrase) (f x : Name Place) (s : SigExp Place) (own cs : List (Constraint Place)) (e : StrExp Place) (bs : List (FunBind Place))
    → of_begun_fun_bind f x s own e ≡ first v → a ≡ drop 1 v → cs ≡ fun_constraints_in (first a) → bs ≡ fun_binds_in (first a)
    → str_height (own_constrained f.place own (constrained e cs)) ≤ highest fun_bind_height (fun_binds (at v 0) (at v 1))
fun_bind_within v a f x s own cs e bs h p cs-is bs-is =
    let k = ap (highest fun_bind_height) (fun_bind_made v a f x s own cs e _ bs h p cs-is bs-is refl) in omega (arith, k)

pub functor_made : (v a : List Phrase) (f : Name Place) (ss : Specs Place) (own cs : List (Constraint Place)) (e whole : StrExp Place) (bs : List (FunBind Place))
    → of_begun_functor f ss own e ≡ first v → a ≡ drop 1 v → cs ≡ fun_constraints_in (first a) → bs ≡ fun_binds_in (first a) → whole ≡ own_constrained f.place own (constrained e cs)
    → open_functor f ss whole ∷ bs ≡ fun_binds (at v 0) (at v 1)
functor_made v a f ss own cs e whole bs h p cs-is bs-is made =
    ap (λ z. open_functor f ss z ∷ bs) (made ∙ ap (λ z. own_constrained f.place own (constrained e z)) (cs-is ∙ ap (λ l. fun_constraints_in (first l)) p))
    ∙ ap (λ z. open_functor f ss (own_constrained f.place own (constrained e (fun_constraints_in (at v 1)))) ∷ z) (bs-is ∙ ap (λ l. fun_binds_in (first l)) p)
    ∙ ap (λ z. fun_binds z (at v 1)) h

open_functor_grows : (f : Name Place) (ss : Specs Place) (e : StrExp Place) → str_height e ≤ fun_bind_height (open_functor f ss e)
open_functor_grows f ss e = omega arith

pub functor_within : (v a : List Phrase) (f : Name Place) (ss : Specs Place) (own cs : List (Constraint Place)) (e : StrExp Place) (bs : List (FunBind Place))
    → of_begun_functor f ss own e ≡ first v → a ≡ drop 1 v → cs ≡ fun_constraints_in (first a) → bs ≡ fun_binds_in (first a)
    → str_height (own_constrained f.place own (constrained e cs)) ≤ highest fun_bind_height (fun_binds (at v 0) (at v 1))
functor_within v a f ss own cs e bs h p cs-is bs-is =
    let k = ap (highest fun_bind_height) (functor_made v a f ss own cs e _ bs h p cs-is bs-is refl) in
    let grown = open_functor_grows f ss (own_constrained f.place own (constrained e cs)) in
    omega (arith, k, grown)

-- a functor binding from specifications that is too high, and how high it is in front of others
pub functor_high : (f : Name Place) (ss : Specs Place) (e : StrExp Place) (bs : List (FunBind Place)) (h k n m : ℕ)
    → specs_height ss ≡ h → str_height e ≡ k → n ≡ max k 1 → m ≡ max h n → m + 1 ≤ highest fun_bind_height (open_functor f ss e ∷ bs)
functor_high f ss e bs h k n m high body one most = omega (arith, high, body, one, most)

pub functor_measured : (f : Name Place) (ss : Specs Place) (e : StrExp Place) (made bs : List (FunBind Place)) (h k n m sum o most : ℕ)
    → made ≡ open_functor f ss e ∷ bs → highest fun_bind_height bs ≡ o → specs_height ss ≡ h → str_height e ≡ k → n ≡ max k 1 → m ≡ max h n → sum ≡ m + 1 → most ≡ max o sum
    → highest fun_bind_height made ≡ most
functor_measured f ss e made bs h k n m sum o most made-is others high body one two raised last =
    let s = ap (highest fun_bind_height) made-is in omega (arith, s, others, high, body, one, two, raised, last)
