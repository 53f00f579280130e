-- How a project file is read, line by line.
use Rattle.std.proofs.Common.{◌≡◌, ℕ, suc, ◌+◌, ◌<◌, ◌≤◌, true, false, ◌||◌, List, [], ◌∷◌, ◌++◌, length, map, take, get_or, eqb, Option, Some, None, Result, Ok, Err, String, refl, ap, sym, subst, ◌∙◌, append-nil, inl, inr, arith}
use borrow.Author.Count.{below_more}
use Rattle.std.specs.Global.{Global}
use Rattle.std.specs.List.{cons_option, list_any}
use Rattle.std.specs.Option.{option_map}
use Rattle.std.specs.Result.{IsErrAnd}
use Rattle.std.specs.Str.{bytes_eq}
use Rattle.std.specs.String.{string_bytes, string_eq}
use Rattle.std.proofs.lemmas.Cmp.{nat_list_eq_equiv}
use Rattle.std.proofs.lemmas.List.{length-append, length-take-le, take_all, take_more}
use Rattle.std.proofs.lemmas.List.Splits.{length-slice_split}
use Rattle.std.proofs.lemmas.List.Sums.{count_by-le-length}
use Rattle.sml_projects.specs.declared.manifest.Manifest.{Manifest}
use Rattle.sml_projects.specs.declared.manifest.ManifestFault.{ManifestFault}
use Rattle.sml_projects.specs.declared.manifest.ManifestFault.TheVariants.{Memory, Fault}
use Rattle.sml_projects.specs.declared.manifest.ProjectCode.{ProjectCode}
use Rattle.sml_projects.specs.declared.manifest.ProjectCode.TheVariants.{O3, O4}
use Rattle.sml_projects.specs.ProjectFiles.{most_bytes, lines_of, UnitLine, passed_over, lists, unit_of, units_of, numbers_from, numbers_of, meaning, has_repeats, is_repeated, line_fault, fault_at, listed_as, IsAnswerTo, IsFault}
use Rattle.sml_projects.proofs.Listings.{units-more, clear_listing, repeated_listing}

-- a column for each part of the units listed

pub listed-more : (ns fs : List (List ℕ)) (ds : List (List (List ℕ))) (n f : List ℕ) (d : List (List ℕ)) → length fs ≡ length ns → length ds ≡ length ns
    → listed_as (ns ++ n ∷ []) (fs ++ f ∷ []) (ds ++ d ∷ []) ≡ listed_as ns fs ds ++ record { name = n; file = f; needs = d } ∷ []
listed-more [] [] [] n f d h g = refl
listed-more [] (x ∷ fs) ds n f d h g = absurd (omega arith)
listed-more [] [] (x ∷ ds) n f d h g = absurd (omega arith)
listed-more (m ∷ ns) [] ds n f d h g = absurd (omega arith)
listed-more (m ∷ ns) (x ∷ fs) [] n f d h g = absurd (omega arith)
listed-more (m ∷ ns) (x ∷ fs) (y ∷ ds) n f d h g = ap (λ us. record { name = m; file = x; needs = y } ∷ us) (listed-more ns fs ds n f d (omega arith) (omega arith))

pub length-listed : (ns fs : List (List ℕ)) (ds : List (List (List ℕ))) → length fs ≡ length ns → length ds ≡ length ns → length (listed_as ns fs ds) ≡ length ns
length-listed [] fs ds h g = refl
length-listed (n ∷ ns) [] ds h g = absurd (omega arith)
length-listed (n ∷ ns) (f ∷ fs) [] h g = absurd (omega arith)
length-listed (n ∷ ns) (f ∷ fs) (d ∷ ds) h g = (let e = length-listed ns fs ds (omega arith) (omega arith) in omega (arith, e))

pub files-listed : (ns fs : List (List ℕ)) (ds : List (List (List ℕ))) → length fs ≡ length ns → length ds ≡ length ns → map (λ u. u.file) (listed_as ns fs ds) ≡ fs
files-listed [] [] ds h g = refl
files-listed [] (f ∷ fs) ds h g = absurd (omega arith)
files-listed (n ∷ ns) [] ds h g = absurd (omega arith)
files-listed (n ∷ ns) (f ∷ fs) [] h g = absurd (omega arith)
files-listed (n ∷ ns) (f ∷ fs) (d ∷ ds) h g = ap (λ l. f ∷ l) (files-listed ns fs ds (omega arith) (omega arith))

pub repeated-listed : (ns fs : List (List ℕ)) (ds : List (List (List ℕ))) (u : UnitLine) → length fs ≡ length ns → length ds ≡ length ns → is_repeated (listed_as ns fs ds) u ≡ list_any (bytes_eq u.name) ns
repeated-listed [] fs ds u h g = refl
repeated-listed (n ∷ ns) [] ds u h g = absurd (omega arith)
repeated-listed (n ∷ ns) (f ∷ fs) [] u h g = absurd (omega arith)
repeated-listed (n ∷ ns) (f ∷ fs) (d ∷ ds) u h g =
    let rest = repeated-listed ns fs ds u (omega arith) (omega arith) in
    λ i. nat_list_eq_equiv.symm n u.name i || rest i

-- the keys of a set of texts
pub any_text : (keys : List (String Global)) (x : String Global) → list_any (string_eq x) keys ≡ list_any (bytes_eq (string_bytes x)) (map string_bytes keys)
any_text [] x = refl
any_text (y ∷ keys) x = ap (λ b. string_eq x y || b) (any_text keys x)

-- the numbers of the lines

cons_option-append : {A : Type 0} (o : Option A) (xs ys : List A) → cons_option o (xs ++ ys) ≡ cons_option o xs ++ ys
cons_option-append None xs ys = refl
cons_option-append (Some x) xs ys = refl

-- the number of a line, if it lists a unit
abbrev number_if : ℕ → List ℕ → List ℕ
number_if k l = cons_option (option_map (λ u. k) (unit_of (meaning l))) []

numbers-last : (ls : List (List ℕ)) (k : ℕ) (l : List ℕ) → numbers_from k (ls ++ l ∷ []) ≡ numbers_from k ls ++ number_if (k + length ls) l
numbers-last [] k l = let e : k ≡ k + 0 = omega arith in ap (λ n. number_if n l) e
numbers-last (x ∷ ls) k l =
    let o = option_map (λ (u : UnitLine). k) (unit_of (meaning x)) in
    let e : suc k + length ls ≡ k + suc (length ls) = omega arith in
    ap (cons_option o) (numbers-last ls (suc k) l) ∙ cons_option-append o (numbers_from (suc k) ls) (number_if (suc k + length ls) l) ∙ ap (λ n. cons_option o (numbers_from (suc k) ls) ++ number_if n l) e

numbers-more : (ls : List (List ℕ)) (i : ℕ) → i < length ls → numbers_of (take (i + 1) ls) ≡ numbers_of (take i ls) ++ number_if (i + 1) (get_or ls i [])
numbers-more ls i h =
    let e : 1 + length (take i ls) ≡ i + 1 = (let t = length-take-le i ls (omega arith) in omega (arith, t)) in
    ap numbers_of (take_more ls i [] h) ∙ numbers-last (take i ls) 1 (get_or ls i []) ∙ ap (λ n. numbers_of (take i ls) ++ number_if n (get_or ls i [])) e

-- the first lines have no fault, and list units of these names, files and needs at lines of these numbers
pub record ReadTo (ls : List (List ℕ)) (i : ℕ) (ns fs : List (List ℕ)) (ds : List (List (List ℕ))) (ks : List ℕ) : Type 0 where
  pub clear : (k : ℕ) → k < i → fault_at ls k ≡ None
  pub units : listed_as ns fs ds ≡ units_of (take i ls)
  pub numbers : ks ≡ numbers_of (take i ls)
  pub few : length ns ≤ 4096
  pub files_paired : length fs ≡ length ns
  pub needs_paired : length ds ≡ length ns
  pub lines_paired : length ks ≡ length ns

pub read_start : (ls ns fs : List (List ℕ)) (ds : List (List (List ℕ))) (ks : List ℕ) → ns ≡ [] → fs ≡ [] → ds ≡ [] → ks ≡ [] → ReadTo ls 0 ns fs ds ks
read_start ls ns fs ds ks n f d k =
    let a = ap length n in
    let b = ap length f in
    let e = ap length d in
    let g = ap length k in
    record {
      clear = λ j h. absurd (omega arith);
      units = (λ j. listed_as (n j) (f j) (d j));
      numbers = k;
      few = omega (arith, a);
      files_paired = omega (arith, a, b);
      needs_paired = omega (arith, a, e);
      lines_paired = omega (arith, a, g);
    }

module _ (ls : List (List ℕ)) (i : ℕ) (names files : List (List ℕ)) (needs : List (List (List ℕ))) (numbers : List ℕ) (line : List ℕ) where
  pub read_passed : (ns fs : List (List ℕ)) (ds : List (List (List ℕ))) (ks : List ℕ) → ns ≡ names → fs ≡ files → ds ≡ needs → ks ≡ numbers → i < length ls → line ≡ get_or ls i [] → meaning line ≡ passed_over
      → ReadTo ls i names files needs numbers → ReadTo ls (i + 1) ns fs ds ks
  read_passed ns fs ds ks n f d k h is says read =
      let here : meaning (get_or ls i []) ≡ passed_over = ap meaning (sym is) ∙ says in
      let same : units_of (take (i + 1) ls) ≡ units_of (take i ls) = units-more ls i h ∙ ap (λ m. units_of (take i ls) ++ cons_option (unit_of m) []) here ∙ append-nil (units_of (take i ls)) in
      let same_numbers : numbers_of (take (i + 1) ls) ≡ numbers_of (take i ls) =
      numbers-more ls i h ∙ ap (λ m. numbers_of (take i ls) ++ cons_option (option_map (λ u. i + 1) (unit_of m)) []) here ∙ append-nil (numbers_of (take i ls)) in
      record {
        clear = below_more (λ k. fault_at ls k ≡ None) i read.clear (ap (λ m. line_fault (units_of (take i ls)) m) here);
        units = (λ j. listed_as (n j) (f j) (d j)) ∙ read.units ∙ sym same;
        numbers = k ∙ read.numbers ∙ sym same_numbers;
        few = (let a = ap length n in let b = read.few in omega (arith, a, b));
        files_paired = ap length f ∙ read.files_paired ∙ sym (ap length n);
        needs_paired = ap length d ∙ read.needs_paired ∙ sym (ap length n);
        lines_paired = ap length k ∙ read.lines_paired ∙ sym (ap length n);
      }

  units-length : ReadTo ls i names files needs numbers → length (units_of (take i ls)) ≡ length names
  units-length read = sym (ap length read.units) ∙ length-listed names files needs read.files_paired read.needs_paired

  -- what the names tell of a unit's name
  told : (u : UnitLine) → ReadTo ls i names files needs numbers → is_repeated (units_of (take i ls)) u ≡ list_any (bytes_eq u.name) names
  told u read = ap (λ us. is_repeated us u) (sym read.units) ∙ repeated-listed names files needs u read.files_paired read.needs_paired

  pub read_listed : (ns fs : List (List ℕ)) (ds : List (List (List ℕ))) (ks : List ℕ) (n f : List ℕ) (d : List (List ℕ)) → ns ≡ names ++ n ∷ [] → fs ≡ files ++ f ∷ [] → ds ≡ needs ++ d ∷ [] → ks ≡ numbers ++ (i + 1) ∷ []
      → i < length ls → line ≡ get_or ls i [] → meaning line ≡ lists (record { name = n; file = f; needs = d }) → length names < 4096 → has_repeats d ≡ false → list_any (bytes_eq n) names ≡ false
      → ReadTo ls i names files needs numbers → ReadTo ls (i + 1) ns fs ds ks
  read_listed ns fs ds ks n f d a b e g h is says few apart new read =
      let us = units_of (take i ls) in
      let u : UnitLine = record { name = n; file = f; needs = d } in
      let here : meaning (get_or ls i []) ≡ lists u = ap meaning (sym is) ∙ says in
      let more : units_of (take (i + 1) ls) ≡ us ++ u ∷ [] = units-more ls i h ∙ ap (λ m. us ++ cons_option (unit_of m) []) here in
      let counted : numbers_of (take (i + 1) ls) ≡ numbers_of (take i ls) ++ (i + 1) ∷ [] =
      numbers-more ls i h ∙ ap (λ m. numbers_of (take i ls) ++ cons_option (option_map (λ u. i + 1) (unit_of m)) []) here in
      let room : length us < 4096 = (let l = units-length read in omega (arith, l, few)) in
      let ln = ap length a ∙ length-append names (n ∷ []) in
      let lf = ap length b ∙ length-append files (f ∷ []) in
      let ld = ap length e ∙ length-append needs (d ∷ []) in
      let lk = ap length g ∙ length-append numbers ((i + 1) ∷ []) in
      record {
        clear = below_more (λ k. fault_at ls k ≡ None) i read.clear (ap (λ m. line_fault us m) here ∙ clear_listing us u room apart (told u read ∙ new));
        units = (λ j. listed_as (a j) (b j) (e j)) ∙ listed-more names files needs n f d read.files_paired read.needs_paired ∙ ap (λ l. l ++ u ∷ []) read.units ∙ sym more;
        numbers = g ∙ ap (λ l. l ++ (i + 1) ∷ []) read.numbers ∙ sym counted;
        few = omega (arith, ln, few);
        files_paired = (let p = read.files_paired in omega (arith, ln, lf, p));
        needs_paired = (let p = read.needs_paired in omega (arith, ln, ld, p));
        lines_paired = (let p = read.lines_paired in omega (arith, ln, lk, p));
      }

-- the answers

pub read_whole : (text : List ℕ) (i : ℕ) (m : Manifest) → length text ≤ most_bytes → length (lines_of text) ≤ i
    → ReadTo (lines_of text) i (map string_bytes m.names.keys) (map string_bytes m.files.items) (map (λ own. map string_bytes own.items) m.needs.items) m.lines.items → IsAnswerTo text (Ok m)
unfolding IsAnswerTo
read_whole text i m size all read =
    let ls = lines_of text in
    record { size = size; clear = λ k h. read.clear k (omega (arith, h, all)); units = read.units ∙ ap units_of (take_all i ls all); numbers = read.numbers ∙ ap numbers_of (take_all i ls all) }

module _ (text : List ℕ) (i : ℕ) (names files : List (List ℕ)) (needs : List (List (List ℕ))) (numbers : List ℕ) (line : List ℕ) (g : ManifestFault) where
  to_fault : (code : ProjectCode) → length text ≤ most_bytes → i < length (lines_of text) → line ≡ get_or (lines_of text) i [] → line_fault (units_of (take i (lines_of text))) (meaning line) ≡ Some code
      → ReadTo (lines_of text) i names files needs numbers → g ≡ Fault (record { code = code; line = i + 1 }) → IsAnswerTo text (Err g)
  unfolding IsAnswerTo IsFault
  to_fault code size h is bad read e =
      let ls = lines_of text in
      let us = units_of (take i ls) in
      subst (λ f. IsAnswerTo text (Err f)) (sym e) (inr (size, record { before = i; within = h; clear = read.clear; code = ap (λ l. line_fault us (meaning l)) (sym is) ∙ bad; line = refl }))

  pub read_to_bad : length text ≤ most_bytes → i < length (lines_of text) → line ≡ get_or (lines_of text) i [] → ((us : List UnitLine) → length us ≡ length names → line_fault us (meaning line) ≡ Some O4)
      → ReadTo (lines_of text) i names files needs numbers → g ≡ Fault (record { code = O4; line = i + 1 }) → IsAnswerTo text (Err g)
  read_to_bad size h is bad read e =
      let ls = lines_of text in to_fault O4 size h is (bad (units_of (take i ls)) (units-length ls i names files needs numbers line read)) read e

  pub read_to_repeated : (u : UnitLine) → length text ≤ most_bytes → i < length (lines_of text) → line ≡ get_or (lines_of text) i [] → meaning line ≡ lists u → length names < 4096 → has_repeats u.needs ≡ false
      → list_any (bytes_eq u.name) names ≡ true → ReadTo (lines_of text) i names files needs numbers → g ≡ Fault (record { code = O3; line = i + 1 }) → IsAnswerTo text (Err g)
  read_to_repeated u size h is says few apart again read e =
      let ls = lines_of text in
      let us = units_of (take i ls) in
      let room : length us < 4096 = (let l = units-length ls i names files needs numbers line read in omega (arith, l, few)) in
      to_fault O3 size h is (ap (λ m. line_fault us m) says ∙ repeated_listing us u room apart (told ls i names files needs numbers line u read ∙ again)) read e

pub too_long : (text : List ℕ) (g : ManifestFault) → most_bytes < length text → g ≡ Fault (record { code = O4; line = 1 }) → IsAnswerTo text (Err g)
unfolding IsAnswerTo IsFault
too_long text g h e = subst (λ f. IsAnswerTo text (Err f)) (sym e) (inl (h, refl))

pub no_memory : (text : List ℕ) (r : Result Manifest ManifestFault) → IsErrAnd r (λ f. f ≡ Memory) → IsAnswerTo text r
unfolding IsAnswerTo
no_memory text (Ok m) h = absurd h
no_memory text (Err g) h = subst (λ f. IsAnswerTo text (Err f)) (sym h) tt

-- there are few lines, so that their numbers fit
pub few_lines : (text : List ℕ) → length (lines_of text) ≤ length text + 1
few_lines text = let e = length-slice_split (λ b. eqb b 10) text in let d = count_by-le-length (λ b. eqb b 10) text in omega (arith, e, d)
