-- Units one after the other, each of which sees what those before it export.
use Rattle.std.proofs.Common.{◌≡◌, ◌<◌, ◌+◌, ℕ, zero, suc, Bool, true, ◌&&◌, List, [], ◌∷◌, ◌++◌, length, take, get_or, Option, Some, None, refl, ap, sym, subst, ◌∙◌, arith}
use Rattle.std.specs.Prelude.{slice_get}
use Rattle.std.specs.List.{list_all}
use Rattle.std.proofs.lemmas.List.{take_more}
use Rattle.std.proofs.lemmas.List.Folds.{list_all_more}
use Rattle.std.specs.String.{string_bytes}
use Rattle.sml_objects.specs.Objects.{Sig, Env, Basis, extend, extend_env, names_sig, names_env, names_structures, names_map}
use Rattle.sml_objects.specs.Initial.{Name, naming, initial_basis}
use Rattle.sml_rules.specs.Every.{Every}
use Rattle.sml_rules.specs.Open.{OpenEnv}
use Rattle.sml_rules.proofs.Open as Opened
use Rattle.sml_rules.proofs.Within as W
use Rattle.sml_piece.specs.Elaborated.{IsBelow}
use Rattle.sml_exports.specs.declared.exports.Exports.{Exports}
use Rattle.sml_projects.specs.Orders.{UnitText}
use Rattle.sml_units.specs.declared.project.UnitReplies.{UnitReplies}
use Rattle.sml_units.specs.Runs.{SourceUnit, Run, RunProject, start, exports, nothing, all_names, export_at, needed, flag_at, is_whole, specified, specified_unit, specified_from}
use Rattle.sml_units.specs.Checked.{Answered, IsSourceOf, AreSourcesOf, AreReplies, AreUnitReplies, HaveOwnPlaces}
use Rattle.sml_units.specs.CodeUnits.{IsAnswered, IsExported, AreExported, AreReady}
use Rattle.sml_units.proofs.Names.{exports_below, exports_open, start_below, needed_open, open_push, names_push}
use Rattle.sml_units.proofs.Replying.{initial_open}

-- the flags and the exports after these units
abbrev pub flags_after : List Bool → List SourceUnit → List Bool
flags_after fs [] = fs
flags_after fs (s ∷ ss) = flags_after (fs ++ is_whole fs s ∷ []) ss

abbrev pub exported_after : List (Sig Name) → List (List Answered) → List (Sig Name)
exported_after Ss [] = Ss
exported_after Ss (os ∷ oss) = exported_after (Ss ++ exports nothing os ∷ []) oss

-- The units so far are given these replies, and this is kept of them.
pub record AreAnswered (us : List UnitText) (rs : List UnitReplies) (xs : List Exports) : Type 0 where
  pub sources : List SourceUnit
  pub sources_are : AreSourcesOf us sources
  pub answers : List (List Answered)
  pub run : RunProject naming initial_basis [] (specified sources) answers
  pub replies : AreUnitReplies sources (specified sources) answers rs
  pub kept : AreExported (flags_after [] sources) (exported_after [] answers) xs
  pub below : (m : ℕ) → Every (λ u. ¬ (suc u.place ≡ m)) us → Every (IsBelow m 0) (all_names (exported_after [] answers))
  pub opened : Every (λ S. OpenEnv S.body) (exported_after [] answers)

pub answered_none : AreAnswered [] [] []
unfolding RunProject all_names
answered_none = record { sources = []; sources_are = tt; answers = []; run = tt; replies = tt; kept = tt; below = λ m h. tt; opened = tt }

specified_push : (fs : List Bool) (ss : List SourceUnit) (s : SourceUnit) → specified_from fs (ss ++ s ∷ []) ≡ specified_from fs ss ++ specified_unit (flags_after fs ss) s ∷ []
specified_push fs [] s = refl
specified_push fs (t ∷ ss) s = ap (λ l. specified_unit fs t ∷ l) (specified_push (fs ++ is_whole fs t ∷ []) ss s)

flags_push : (fs : List Bool) (ss : List SourceUnit) (s : SourceUnit) → flags_after fs (ss ++ s ∷ []) ≡ flags_after fs ss ++ is_whole (flags_after fs ss) s ∷ []
flags_push fs [] s = refl
flags_push fs (t ∷ ss) s = flags_push (fs ++ is_whole fs t ∷ []) ss s

exported_push : (Ss : List (Sig Name)) (oss : List (List Answered)) (os : List Answered) → exported_after Ss (oss ++ os ∷ []) ≡ exported_after Ss oss ++ exports nothing os ∷ []
exported_push Ss [] os = refl
exported_push Ss (qs ∷ oss) os = exported_push (Ss ++ exports nothing qs ∷ []) oss os

project_push : (Ss : List (Sig Name)) (us : List SourceUnit) (oss : List (List Answered)) (u : SourceUnit) (os : List Answered) → RunProject naming initial_basis Ss us oss
    → Run naming u.maker (start initial_basis (exported_after Ss oss) u.needs) u.declarations os → RunProject naming initial_basis Ss (us ++ u ∷ []) (oss ++ os ∷ [])
unfolding RunProject
project_push Ss [] [] u os h r = (r, tt)
project_push Ss [] (qs ∷ oss) u os h r = absurd h
project_push Ss (v ∷ us) [] u os h r = absurd h
project_push Ss (v ∷ us) (qs ∷ oss) u os h r = (h.0, project_push (Ss ++ exports nothing qs ∷ []) us oss u os h.1 r)

sources_push : (us : List UnitText) (ss : List SourceUnit) (u : UnitText) (s : SourceUnit) → AreSourcesOf us ss → IsSourceOf u s → AreSourcesOf (us ++ u ∷ []) (ss ++ s ∷ [])
sources_push [] [] u s h k = (k, tt)
sources_push [] (t ∷ ss) u s h k = absurd h
sources_push (v ∷ us) [] u s h k = absurd h
sources_push (v ∷ us) (t ∷ ss) u s h k = (h.0, sources_push us ss u s h.1 k)

replies_push : (ss ts : List SourceUnit) (oss : List (List Answered)) (rs : List UnitReplies) (s t : SourceUnit) (os : List Answered) (r : UnitReplies) → AreUnitReplies ss ts oss rs
    → (string_bytes r.name ≡ s.label) × AreReplies s os t.last r.replies.items → AreUnitReplies (ss ++ s ∷ []) (ts ++ t ∷ []) (oss ++ os ∷ []) (rs ++ r ∷ [])
replies_push [] [] [] [] s t os r h k = (k, tt)
replies_push (s' ∷ ss) (t' ∷ ts) (os' ∷ oss) (r' ∷ rs) s t os r h k = (h.0, replies_push ss ts oss rs s t os r h.1 k)
replies_push ss ts oss rs s t os r h k = absurd h

kept_push : (fs : List Bool) (Ss : List (Sig Name)) (xs : List Exports) (f : Bool) (S : Sig Name) (x : Exports) → AreExported fs Ss xs → IsExported f S x
    → AreExported (fs ++ f ∷ []) (Ss ++ S ∷ []) (xs ++ x ∷ [])
kept_push [] [] [] f S x h k = (k, tt)
kept_push (g ∷ fs) (T ∷ Ss) (y ∷ xs) f S x h k = (h.0, kept_push fs Ss xs f S x h.1 k)
kept_push fs Ss xs f S x h k = absurd h

none_below : (m : ℕ) → Every (IsBelow m 0) (names_sig {N = Name} nothing)
unfolding names_sig names_env names_structures names_map
none_below m = tt

-- one unit more
pub answered_push : (us : List UnitText) (rs : List UnitReplies) (xs : List Exports) (u : UnitText) (r : UnitReplies) (x : Exports) (a : AreAnswered us rs xs) → string_bytes r.name ≡ u.name
    → IsAnswered (flags_after [] a.sources) (exported_after [] a.answers) u r.replies.items x → AreAnswered (us ++ u ∷ []) (rs ++ r ∷ []) (xs ++ x ∷ [])
unfolding start
answered_push us rs xs u r x a name i =
    let fs = flags_after [] a.sources in
    let Ss = exported_after [] a.answers in
    let s = i.source in
    let t = specified_unit fs s in
    let os = i.answers in
    let B = start initial_basis Ss s.needs in
    let seen = sym (specified_push [] a.sources s) in
    let sigs = sym (exported_push [] a.answers os) in
    record {
      sources = a.sources ++ s ∷ [];
      sources_are = sources_push us a.sources u s a.sources_are i.is;
      answers = a.answers ++ os ∷ [];
      run = subst (λ l. RunProject naming initial_basis [] l (a.answers ++ os ∷ [])) seen (project_push [] (specified a.sources) a.answers t os a.run i.run);
      replies = subst (λ l. AreUnitReplies (a.sources ++ s ∷ []) l (a.answers ++ os ∷ []) (rs ++ r ∷ [])) seen
          (replies_push a.sources (specified a.sources) a.answers rs s t os r a.replies (name ∙ sym i.is.label_is, i.replies));
      kept = subst (λ l. AreExported l (exported_after [] (a.answers ++ os ∷ [])) (xs ++ x ∷ [])) (sym (flags_push [] a.sources s))
          (subst (λ l. AreExported (fs ++ is_whole fs s ∷ []) l (xs ++ x ∷ [])) sigs (kept_push fs Ss xs (is_whole fs s) (exports nothing os) x a.kept i.kept));
      below = λ m apart.
          let P : UnitText → Type 0 = (λ v. ¬ (suc v.place ≡ m)) in
          let others = a.below m (W.first P us (u ∷ []) apart) in
          let other : ¬ (s.maker ≡ m) = (λ e. (W.last P us (u ∷ []) apart).0 (sym i.is.maker_is ∙ e)) in
          subst (λ l. Every (IsBelow m 0) (all_names l)) sigs
          (names_push m Ss (exports nothing os) others (exports_below m s.maker other B t.declarations os nothing (start_below m Ss s.needs others) (none_below m) i.run));
      opened = subst (Every (λ S. OpenEnv S.body)) sigs
          (open_push Ss (exports nothing os) a.opened (exports_open s.maker B t.declarations os nothing (needed_open initial_basis Ss s.needs initial_open a.opened) (Opened.nothing Name) i.run));
    }

-- units at places of their own, one more among them

pub places_push : (us : List UnitText) (u : UnitText) → HaveOwnPlaces (us ++ u ∷ []) → HaveOwnPlaces us × Every (λ v. ¬ (suc v.place ≡ suc u.place)) us
places_push [] u h = (tt, tt)
places_push (v ∷ us) u h =
    let P : UnitText → Type 0 = (λ w. ¬ (v.place ≡ w.place)) in
    let r = places_push us u h.1 in
    ((W.first P us (u ∷ []) h.0, r.0), ((λ e. (W.last P us (u ∷ []) h.0).0 (omega (arith, e))), r.1))

-- what is kept of the unit at a place

pub kept_none : (fs : List Bool) (Ss : List (Sig Name)) (xs : List Exports) (k : ℕ) → AreExported fs Ss xs → slice_get xs k ≡ None → (flag_at fs k ≡ true) × (export_at Ss k ≡ nothing)
unfolding export_at
kept_none [] [] [] k h e = (refl, refl)
kept_none (f ∷ fs) (S ∷ Ss) (x ∷ xs) zero h e = absurd cc
kept_none (f ∷ fs) (S ∷ Ss) (x ∷ xs) (suc k) h e = kept_none fs Ss xs k h.1 e
kept_none fs Ss xs k h e = absurd h

some_same : {A : Type 0} {x y : A} → ◌≡◌ {A = Option A} (Some x) (Some y) → x ≡ y
some_same e = cc

pub kept_at : (fs : List Bool) (Ss : List (Sig Name)) (xs : List Exports) (k : ℕ) (x : Exports) → AreExported fs Ss xs → slice_get xs k ≡ Some x → IsExported (flag_at fs k) (export_at Ss k) x
unfolding export_at
kept_at [] [] [] k x h e = absurd cc
kept_at (f ∷ fs) (S ∷ Ss) (y ∷ xs) zero x h e = subst (IsExported f S) (some_same e) h.0
kept_at (f ∷ fs) (S ∷ Ss) (y ∷ xs) (suc k) x h e = kept_at fs Ss xs k x h.1 e
kept_at fs Ss xs k x h e = absurd h

-- one need more

needed_push : (B : Basis Name) (Ss : List (Sig Name)) (ks : List ℕ) (k : ℕ) → (needed B Ss (ks ++ k ∷ [])).body ≡ extend_env (needed B Ss ks).body (export_at Ss k).body
unfolding needed extend
needed_push B Ss [] k = refl
needed_push B Ss (j ∷ ks) k = needed_push (extend B (export_at Ss j)) Ss ks k

pub ready_more : (fs : List Bool) (ks : List ℕ) (i : ℕ) → i < length ks → list_all (flag_at fs) (take i ks) ≡ true → flag_at fs (get_or ks i 0) ≡ true → list_all (flag_at fs) (take (i + 1) ks) ≡ true
ready_more fs ks i h a f = list_all_more (flag_at fs) ks i 0 h ∙ (λ j. a j && f j)

pub needed_more : (Ss : List (Sig Name)) (ks : List ℕ) (i : ℕ) → i < length ks → (E : Env Name) → (needed initial_basis Ss (take i ks)).body ≡ E
    → (needed initial_basis Ss (take (i + 1) ks)).body ≡ extend_env E (export_at Ss (get_or ks i 0)).body
needed_more Ss ks i h E w =
    let k = get_or ks i 0 in
    ap (λ l. (needed initial_basis Ss l).body) (take_more ks i 0 h) ∙ needed_push initial_basis Ss (take i ks) k ∙ ap (λ E. extend_env E (export_at Ss k).body) w
