-- A structure description with what belongs to it, and those after it.
use Rattle.std.proofs.Common.{◌≡◌, ℕ, ◌≤◌, List, [], ◌∷◌, ◌++◌, map, max, drop, reverse, refl, ap, ◌∙◌, arith}
use Rattle.sml_lex.specs.declared.fault.Place.{Place}
use Rattle.sml_tree.specs.Heights.{sig_height, str_descs_height}
use Rattle.sml_tree.specs.Names.{Name}
use Rattle.sml_tree.specs.Signatures.{SigExp, Spec, StrDesc, StrDescs, WhereType, and_str_desc, str_desc}
use Rattle.sml_tree.specs.SignatureViews.{sig_layer, sig_of, spec_layer, str_desc_layer, str_desc_of, str_descs_of}
use Rattle.sml_tree.specs.TypeViews.{name_of}
use Rattle.sml_tree.specs.declared.names.Name as ProgramName
use Rattle.sml_tree.specs.declared.signatures.SigExp as ProgramSig
use Rattle.sml_tree.specs.declared.signatures.SigExp.TheFolds.{fold-roll-StrDesc}
use Rattle.sml_tree.specs.declared.signatures.StrDesc as Program
use Rattle.sml_tree.specs.declared.signatures.StrDesc.{roll-StrDesc}
use Rattle.sml_phrases.specs.Phrases.{Phrase, of_begun_str_desc, at, first, desc_wheres_in, str_descs_in}
use Rattle.sml_bare_mods.proofs.Pushes.{pushed}
use Rattle.sml_bare_mods.specs.SignatureRules.{with_wheres}
use Rattle.sml_bare_mods.specs.SpecificationRules.{str_descs}

pub desc_made : (v a : List Phrase) (x : Name Place) (s whole : SigExp Place) (ws : List (WhereType Place)) (ds : StrDescs Place)
    → of_begun_str_desc x s ≡ first v → a ≡ drop 1 v → ws ≡ desc_wheres_in (first a) → ds ≡ str_descs_in (first a) → whole ≡ with_wheres s ws
    → and_str_desc (str_desc x whole) ds ≡ str_descs (at v 0) (at v 1)
desc_made v a x s whole ws ds h p ws-is ds-is made =
    ap (λ z. and_str_desc (str_desc x z) ds) (made ∙ ap (with_wheres s) (ws-is ∙ ap (λ l. desc_wheres_in (first l)) p))
    ∙ ap (λ z. and_str_desc (str_desc x (with_wheres s (desc_wheres_in (at v 1)))) z) (ds-is ∙ ap (λ l. str_descs_in (first l)) p)
    ∙ ap (λ f. str_descs f (at v 1)) h

pub desc_within : (v a : List Phrase) (x : Name Place) (s : SigExp Place) (ws : List (WhereType Place)) (ds : StrDescs Place)
    → of_begun_str_desc x s ≡ first v → a ≡ drop 1 v → ws ≡ desc_wheres_in (first a) → ds ≡ str_descs_in (first a)
    → sig_height (with_wheres s ws) ≤ str_descs_height (str_descs (at v 0) (at v 1))
desc_within v a x s ws ds h p ws-is ds-is =
    let e = ap str_descs_height (desc_made v a x s (with_wheres s ws) ws ds h p ws-is ds-is refl) in omega (arith, e)

desc_of-parts : (x : ProgramName.Name) (s : ProgramSig.SigExp) → str_desc_of (roll-StrDesc (record { name = x; signature = s })) ≡ str_desc (name_of x) (sig_of s)
desc_of-parts x s = fold-roll-StrDesc (SigExp Place) (Spec Place) (StrDesc Place) sig_layer spec_layer str_desc_layer (record { name = x; signature = s })

-- the program's descriptions with one more in front, and how high they are
pub desc_pushed : (old new : List Program.StrDesc) (x : ProgramName.Name) (s : ProgramSig.SigExp)
    → new ≡ old ++ roll-StrDesc (record { name = x; signature = s }) ∷ []
    → str_descs_of (map str_desc_of (reverse new)) ≡ and_str_desc (str_desc (name_of x) (sig_of s)) (str_descs_of (map str_desc_of (reverse old)))
desc_pushed old new x s e =
    ap str_descs_of (pushed str_desc_of old new _ e) ∙ ap (λ d. and_str_desc d (str_descs_of (map str_desc_of (reverse old)))) (desc_of-parts x s)

pub desc_measured : (old new : List Program.StrDesc) (x : ProgramName.Name) (s : ProgramSig.SigExp) (h k m : ℕ)
    → new ≡ old ++ roll-StrDesc (record { name = x; signature = s }) ∷ []
    → str_descs_height (str_descs_of (map str_desc_of (reverse old))) ≡ h → sig_height (sig_of s) ≡ k → m ≡ max h k
    → str_descs_height (str_descs_of (map str_desc_of (reverse new))) ≡ m
desc_measured old new x s h k m e high one most =
    let made = ap str_descs_height (desc_pushed old new x s e) in omega (arith, made, high, one, most)
