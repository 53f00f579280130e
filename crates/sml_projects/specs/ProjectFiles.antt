-- What a project file says.
use Rattle.std.specs.Prelude.{◌≡◌, ℕ, suc, ◌+◌, ◌<◌, ◌≤◌, Bool, false, ◌&&◌, ◌||◌, ◌==◌, nat_lt, nat_le, cond, ◌⊎◌, List, [], ◌∷◌, length, map, take, slice_index_or, codes, Option, Some, None, Result, Ok, Err}
use Rattle.std.specs.Option.{option_map}
use Rattle.std.specs.Char.{is_ascii_alphanumeric}
use Rattle.std.specs.List.{slice_split, filter, filter_map, list_all, list_any, cons_option}
use Rattle.std.specs.Str.{bytes_eq}
use Rattle.std.specs.Str.Lines.{strip_carriage_return}
use Rattle.std.specs.String.{string_bytes}
use Rattle.sml_projects.specs.declared.manifest.Manifest.{Manifest}
use Rattle.sml_projects.specs.declared.manifest.ManifestFault.{ManifestFault}
use Rattle.sml_projects.specs.declared.manifest.ManifestFault.TheVariants.{Memory, Fault}
use Rattle.sml_projects.specs.declared.manifest.ProjectCode.{ProjectCode}
use Rattle.sml_projects.specs.declared.manifest.ProjectCode.TheVariants.{O3, O4}
use Rattle.sml_projects.specs.declared.manifest.ProjectFault.{ProjectFault}
use Rattle.sml_projects.specs.declared.project_file.Line.{Line}
use Rattle.sml_projects.specs.declared.project_file.Line.TheVariants.{PassedOver, Listed, Bad}

abbrev pub most_bytes : ℕ
most_bytes = 1048576

abbrev pub most_units : ℕ
most_units = 4096

-- what stands between newlines
abbrev pub lines_of : List ℕ → List (List ℕ)
lines_of bytes = slice_split (λ b. b == 10) bytes

-- a space or a tab
abbrev pub is_blank : ℕ → Bool
is_blank b = (b == 32) || (b == 9)

abbrev pub has_bytes : List ℕ → Bool
has_bytes bytes = nat_lt 0 (length bytes)

-- the words of a line: what stands between spaces and tabs, once a carriage return at its end is dropped
abbrev pub words_of : List ℕ → List (List ℕ)
words_of line = filter has_bytes (slice_split is_blank (strip_carriage_return line))

-- a letter, a digit, an underscore or a hyphen
abbrev pub is_name_byte : ℕ → Bool
is_name_byte b = is_ascii_alphanumeric b || ((b == 95) || (b == 45))

-- a word of up to 64 such bytes
abbrev pub is_unit_name : List ℕ → Bool
is_unit_name word = nat_le (length word) 64 && list_all is_name_byte word

-- a word of bytes 33 to 126
abbrev pub is_file_name : List ℕ → Bool
is_file_name word = list_all (λ b. nat_le 33 b && nat_le b 126) word

-- whether the first byte is #
abbrev pub is_remark : List ℕ → Bool
is_remark [] = false
is_remark (b ∷ bs) = b == 35

-- a unit as a line lists it
pub record UnitLine : Type 0 where
  pub name : List ℕ
  pub file : List ℕ
  pub needs : List (List ℕ)

-- what a line says
pub data Meaning : Type 0 where
  passed_over : Meaning
  lists : UnitLine → Meaning
  bad_form : Meaning

-- the words after `unit`: NAME FILE NEED ..
abbrev pub listing : List (List ℕ) → Meaning
listing [] = bad_form
listing (name ∷ []) = bad_form
listing (name ∷ file ∷ needs) = cond (is_unit_name name && (is_file_name file && list_all is_unit_name needs)) (lists (record { name = name; file = file; needs = needs })) bad_form

abbrev pub meaning_of_words : List (List ℕ) → Meaning
meaning_of_words [] = passed_over
meaning_of_words (word ∷ words) = cond (is_remark word) passed_over (cond (bytes_eq word (codes "unit")) (listing words) bad_form)

unfoldable pub meaning : List ℕ → Meaning
meaning line = meaning_of_words (words_of line)

abbrev pub unit_of : Meaning → Option UnitLine
unit_of passed_over = None
unit_of (lists u) = Some u
unit_of bad_form = None

-- the units that lines list
abbrev pub units_of : List (List ℕ) → List UnitLine
units_of ls = filter_map (λ l. unit_of (meaning l)) ls

-- the numbers of the lines that list units, the first line having this one
abbrev pub numbers_from : ℕ → List (List ℕ) → List ℕ
numbers_from k [] = []
numbers_from k (l ∷ ls) = cons_option (option_map (λ u. k) (unit_of (meaning l))) (numbers_from (suc k) ls)

abbrev pub numbers_of : List (List ℕ) → List ℕ
numbers_of ls = numbers_from 1 ls

-- whether a word stands twice
abbrev pub has_repeats : List (List ℕ) → Bool
has_repeats [] = false
has_repeats (w ∷ ws) = list_any (bytes_eq w) ws || has_repeats ws

-- too many units, or a need twice
abbrev pub is_too_much : List UnitLine → UnitLine → Bool
is_too_much us u = nat_le most_units (length us) || has_repeats u.needs

-- whether a unit of this name is listed
abbrev pub is_repeated : List UnitLine → UnitLine → Bool
is_repeated us u = list_any (λ v. bytes_eq v.name u.name) us

-- the fault of a line after lines that list these units; O4 comes before O3
abbrev pub line_fault : List UnitLine → Meaning → Option ProjectCode
line_fault us passed_over = None
line_fault us (lists u) = cond (is_too_much us u) (Some O4) (cond (is_repeated us u) (Some O3) None)
line_fault us bad_form = Some O4

-- the fault of the line with so many lines before it
abbrev pub fault_at : List (List ℕ) → ℕ → Option ProjectCode
fault_at ls k = line_fault (units_of (take k ls)) (meaning (slice_index_or ls k []))

-- the first line with a fault, counted from 1
pub record IsFirstFault (ls : List (List ℕ)) (f : ProjectFault) : Type 0 where
  pub before : ℕ
  pub within : before < length ls
  pub clear : (k : ℕ) → k < before → fault_at ls k ≡ None
  pub code : fault_at ls before ≡ Some f.code
  pub line : f.line ≡ before + 1

-- too many bytes are a bad line 1
unfoldable pub IsFault : List ℕ → ProjectFault → Type 0
IsFault bytes f = ((most_bytes < length bytes) × (f ≡ record { code = O4; line = 1 })) ⊎ ((length bytes ≤ most_bytes) × IsFirstFault (lines_of bytes) f)

-- units of these names, files and needs
abbrev pub listed_as : List (List ℕ) → List (List ℕ) → List (List (List ℕ)) → List UnitLine
listed_as (name ∷ names) (file ∷ files) (own ∷ needs) = record { name = name; file = file; needs = own } ∷ listed_as names files needs
listed_as names files needs = []

-- the units of a manifest, in the order listed
abbrev pub units_in : Manifest → List UnitLine
units_in m = listed_as (map string_bytes m.names.keys) (map string_bytes m.files.items) (map (λ own. map string_bytes own.items) m.needs.items)

-- the manifest of bytes in which no line has a fault
pub record IsManifestOf (bytes : List ℕ) (m : Manifest) : Type 0 where
  pub size : length bytes ≤ most_bytes
  pub clear : (k : ℕ) → k < length (lines_of bytes) → fault_at (lines_of bytes) k ≡ None
  pub units : units_in m ≡ units_of (lines_of bytes)
  pub numbers : m.lines.items ≡ numbers_of (lines_of bytes)

-- how a project file is answered
unfoldable pub IsAnswerTo : List ℕ → Result Manifest ManifestFault → Type 0
IsAnswerTo bytes (Ok m) = IsManifestOf bytes m
IsAnswerTo bytes (Err (Fault f)) = IsFault bytes f
IsAnswerTo bytes (Err Memory) = Unit {0}

-- What the code makes of one line after so many units. No public contract rests on it.
unfoldable pub LineGives : ℕ → List ℕ → Line → Type 0
LineGives listed line PassedOver = meaning line ≡ passed_over
LineGives listed line (Listed u) = (meaning line ≡ lists (record { name = string_bytes u.name; file = string_bytes u.file; needs = map string_bytes u.needs.items })) × (listed < most_units) × (has_repeats (map string_bytes u.needs.items) ≡ false)
LineGives listed line Bad = (us : List UnitLine) → length us ≡ listed → line_fault us (meaning line) ≡ Some O4
