-- How many bytes the lines of a reply have at least, and for which number of them room is asked.
use Rattle.std.specs.Prelude.{ℕ, ◌+◌, ◌*◌, [], ◌∷◌, length}
use Rattle.sml_tree.specs.Trees.{Id}
use Rattle.sml_objects.specs.Initial.{Name}
use Rattle.sml_objects.specs.Maps.{Map}
use Rattle.sml_objects.specs.Views.{entries_of}
use Rattle.sml_core_rules.specs.Objects.{Env, Maps, Structures, TyStr, maps, no_structure, and_structure}
use Rattle.sml_bases.specs.declared.objects.Basis.{Basis}
use Rattle.sml_bases.specs.declared.objects.Basis.TheViews.{out-Basis}
use Rattle.sml_bases.specs.Entries.{capped_32, total}
use Rattle.sml_bases.specs.Layers.{bound_env, bound_functors, bound_signatures}
use Rattle.sml_bases.specs.Summaries.{lines_of}

-- The line of an identifier, before which a path of so many bytes stands: no line is without nine others.
abbrev pub line_bytes : ℕ → Id → ℕ
line_bytes p x = p + length x + 9

-- the sum over the entries of a map
abbrev pub total_by : {X : Type 0} → (Id → X → ℕ) → Map X → ℕ
total_by f [] = 0
total_by f (e ∷ es) = f e.0 e.1 + total_by f es

-- Each constructor of a type, of which there are so many by `signs`, takes nine bytes more in its line.
unfoldable mutual
  pub bytes_in : {T V : Type 0} → (T → ℕ) → ℕ → Maps T V → ℕ
  bytes_in signs p (maps ss ts vs) = structure_bytes signs p ss + (total_by (λ x t. line_bytes p x + 9 * signs t) ts + total_by (λ x v. line_bytes p x) vs)

  pub structure_bytes : {T V : Type 0} → (T → ℕ) → ℕ → Structures T V → ℕ
  structure_bytes signs p no_structure = 0
  structure_bytes signs p (and_structure x E ss) = (line_bytes p x + bytes_in signs (p + length x + 1) E) + structure_bytes signs p ss

abbrev pub constructor_count : TyStr Name → ℕ
constructor_count t = length t.constructors

abbrev pub env_bytes : Env Name → ℕ
env_bytes E = bytes_in constructor_count 0 E

-- Signatures and functors have no line of their own here.
abbrev pub bound_bytes : Basis → ℕ
bound_bytes b = env_bytes (bound_env b) + (total (λ S. env_bytes S.body) (bound_signatures b) + total (λ F. env_bytes F.argument.body + env_bytes F.result.body) (bound_functors b))

-- the lines of what a basis binds, by what is kept of it
abbrev pub bound_lines : Basis → ℕ
bound_lines b =
    capped_32 (lines_of (out-Basis b).env
    + (total (λ s. lines_of s.value.env.value) (entries_of (λ s. s) (out-Basis b).signatures.entries)
    + total (λ f. lines_of f.value.argument.env.value + lines_of f.value.result.env.value) (entries_of (λ f. f) (out-Basis b).functors.entries)))
