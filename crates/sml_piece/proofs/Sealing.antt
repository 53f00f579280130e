-- Readings of sealed structures, step by step.
use Rattle.std.proofs.Common.{◌≡◌, ◌+◌, ℕ, List, [], ◌++◌, length, map, Result, Ok, Err, IfOk, ap, sym, subst, ◌∙◌}
use Rattle.std.proofs.lemmas.List.{length-map}
use Rattle.sml_lex.specs.declared.fault.Place.{Place}
use Rattle.sml_lex.specs.Faults as F
use Rattle.sml_tree.specs.Trees.{Id, CoreDec, core}
use Rattle.sml_objects.specs.Objects.{Env, Sig, Basis, empty_env, one_structure, names_basis, names_env, names_sig, names_structures, names_map}
use Rattle.sml_objects.specs.Initial.{Name, naming}
use Rattle.sml_tree.specs.Views.{core_dec_of}
use Rattle.sml_tree.specs.declared.bare.CoreDec as PD
use Rattle.sml_objects.specs.Views.{env_of, maker_of, name_of, sig_of}
use Rattle.sml_objects.specs.declared.objects.Basis as PB
use Rattle.sml_objects.specs.declared.objects.Sig as PS
use Rattle.sml_rules.specs.Answers.{Answer, Reading, refused, accepted, After, give, ◌>>=◌}
use Rattle.sml_rules.specs.Every.{Every}
use Rattle.sml_rules.specs.Readings.{read_cores, read_dec}
use Rattle.sml_rules.specs.Rules.{apart, sum_from}
use Rattle.sml_rules.proofs.Sound.{bound_by, given}
use Rattle.sml_rules.proofs.Within.{first, last, both, read_core_within, read_cores_within}
use Rattle.sml_piece.specs.declared.top_fault.TopFault.{TopFault}
use Rattle.sml_piece.specs.Elaborated.{Answers, IsBelow, IsBasisOf, IsOwnBasis, IsMade, summed, signature_of}
use Rattle.sml_piece.proofs.Specifying.{all_below_more}

-- what a sum comes from
pub summands : (T : Sig Name) (m : Reading Place (List (Sig Name))) (S : Sig Name) → summed T m (accepted S) → (Ss : List (Sig Name)) × m (accepted Ss) × (S ≡ sum_from T Ss)
summands T m S h = let a = bound_by m _ S h in (a.0, a.1, given Place (sum_from T a.0) S a.2)

abbrev no : F.Fault Place → Answer Place (Sig Name)
no f = refused f

not_given : {T : Sig Name} {f : F.Fault Place} → no f ≡ accepted T → ⊥
not_given e = cc

fault_or : F.Fault Place → Answer Place (Sig Name) → F.Fault Place
fault_or f (refused h) = h
fault_or f (accepted x) = f

same_fault : (f g : F.Fault Place) → no f ≡ refused g → f ≡ g
unfolding fault_or
same_fault f g e = ap (fault_or f) e

pub refused_summand : (T : Sig Name) (m : Reading Place (List (Sig Name))) (f : F.Fault Place) → summed T m (refused f) → m (refused f)
unfolding ◌>>=◌ After give
refused_summand T m f (accepted Ss, h, e) = absurd (not_given e)
refused_summand T m f (refused g, h, e) = subst (λ g. m (refused g)) (sym (same_fault f g e)) h

-- the body of a structure is read in the basis
pub body_read : (p : PB.Basis) (B : Basis Name) → IsBasisOf p B → (xs ys : List PD.CoreDec) → xs ≡ ys → (o : Answer Place (Env Name))
    → read_cores naming (env_of p.env) empty_env (map core_dec_of xs) o → read_cores naming B.body empty_env (map core_dec_of ys) o
body_read p B basis xs ys e o h =
    subst (λ E. read_cores naming E empty_env (map core_dec_of ys) o) (sym basis.body_is) (subst (λ ds. read_cores naming (env_of p.env) empty_env (map core_dec_of ds) o) e h)

-- the names of a basis with those of a structure's body have numbers below the count
pub apart_below : (unit k : ℕ) (B : Basis Name) (decs : List (CoreDec Place)) (E : Env Name) → Every (IsBelow unit k) (names_basis B)
    → read_cores naming B.body empty_env decs (accepted E) → Every (IsBelow unit k) (names_basis (apart B E))
unfolding names_basis naming names_env names_structures names_map
apart_below unit k B decs E h r =
    let P = IsBelow unit k in
    let old = first P B.names (names_env B.body) h in
    let body = last P B.names (names_env B.body) h in
    both P (names_env E ++ B.names) (names_env B.body)
    (both P (names_env E) B.names (read_cores_within P naming tt B.body empty_env decs E body tt r) old) body

-- what is exported belongs to the unit
pub exported_own : (p : PB.Basis) (s : Id) (sig : PS.Sig) (r : Result PB.Basis TopFault)
    → Every (IsBelow (maker_of p.unit) (length p.names.items + length sig.names.items)) (names_sig (signature_of sig))
    → IsMade (record { names = (signature_of sig).names; body = one_structure s (signature_of sig).body }) sig_of r → IfOk r (λ b. b.unit ≡ p.unit) → IfOk r (IsOwnBasis p)
unfolding names_sig names_env names_structures names_map
exported_own p s sig (Ok b) below made unit =
    let S = signature_of sig in
    let P = IsBelow (maker_of p.unit) (length p.names.items + length sig.names.items) in
    let count : length b.names.items ≡ length sig.names.items = sym (length-map b.names.items name_of) ∙ ap (λ S. length S.names) made ∙ length-map sig.names.items name_of in
    let body = last P S.names (names_env S.body) below in
    record {
      unit_is = unit;
      own_below = subst (λ n. Every (IsBelow (maker_of p.unit) (length p.names.items + n)) (names_sig (sig_of b))) (sym count)
          (subst (λ R. Every P (names_sig R)) (sym made) (both P S.names _ (first P S.names (names_env S.body) below) (both P (names_env S.body ++ []) [] (both P (names_env S.body) [] body tt) tt)));
    }
exported_own p s sig (Err f) below made unit = tt

-- what a declaration of the core binds belongs to the unit; it makes no name
pub core_own : (p : PB.Basis) (B : Basis Name) → IsBasisOf p B → (d : CoreDec Place) (r : Result PB.Basis TopFault) → Answers sig_of r (read_dec naming (maker_of p.unit) B (core d))
    → IfOk r (λ b. b.unit ≡ p.unit) → IfOk r (λ b. b.names.items ≡ []) → IfOk r (IsOwnBasis p)
unfolding read_dec names_basis names_sig naming
core_own p B basis d (Ok b) h unit none =
    let P = IsBelow (maker_of p.unit) (length p.names.items) in
    let a = bound_by _ _ (sig_of b) h in
    let same = given Place _ (sig_of b) a.2 in
    let below = read_core_within P naming tt B.body d a.0 (last P B.names (names_env B.body) basis.below) a.1 in
    record {
      unit_is = unit;
      own_below = all_below_more (maker_of p.unit) (length p.names.items) (length b.names.items) (names_sig (sig_of b)) (subst (λ S. Every P (names_sig S)) (sym same) below);
    }
core_own p B basis d (Err f) h unit none = tt
