-- How many names a signature expression binds that has no fault, none where some are shared or realised.
use Rattle.std.specs.Prelude.{ℕ, ◌+◌, length, Option, Some, None}
use Rattle.sml_tree.specs.Trees.{Id}
use Rattle.sml_tree.specs.Signatures.{SigExp, Spec, Specs, StrDesc, StrDescs, sig_end, sig_name, where_type, val_spec, type_spec, eqtype_spec, datatype_spec, copy_spec, exception_spec, structure_spec, include_spec, sharing_types, sharing_structures, no_spec, and_spec, str_desc, no_str_desc, and_str_desc}
use Rattle.sml_objects.specs.Initial.{Name}
use Rattle.sml_objects.specs.Maps.{lookup}
use Rattle.sml_core_rules.specs.Objects as O
use Rattle.sml_bases.specs.declared.objects.Basis.{Basis}
use Rattle.sml_bases.specs.Layers.{first_found, signatures_in}

abbrev pub plus : Option ℕ → Option ℕ → Option ℕ
plus None o = None
plus (Some m) None = None
plus (Some m) (Some n) = Some (m + n)

abbrev pub names_in : Option (O.Sig Name) → ℕ
names_in None = 0
names_in (Some S) = length S.names

-- how many names the signature binds that an identifier means
abbrev pub bound_by : Basis → Id → ℕ
bound_by b x = names_in (first_found (lookup x) (signatures_in b))

module _ {P : Type 0} (of_name : Id → ℕ) where
  abbrev mutual
    pub sig_binds : SigExp P → Option ℕ
    sig_binds (sig_end p ss) = specs_bind ss
    sig_binds (sig_name p x) = Some (of_name x)
    sig_binds (where_type p s w) = None

    pub spec_binds : Spec P → Option ℕ
    spec_binds (val_spec p ds) = Some 0
    spec_binds (type_spec p ds) = Some (length ds)
    spec_binds (eqtype_spec p ds) = Some (length ds)
    spec_binds (datatype_spec p bs) = Some (length bs)
    spec_binds (copy_spec p t u) = Some 0
    spec_binds (exception_spec p bs) = Some 0
    spec_binds (structure_spec p ds) = str_descs_bind ds
    spec_binds (include_spec p s) = sig_binds s
    spec_binds (sharing_types p ts) = None
    spec_binds (sharing_structures p ss) = None

    pub specs_bind : Specs P → Option ℕ
    specs_bind no_spec = Some 0
    specs_bind (and_spec s ss) = plus (spec_binds s) (specs_bind ss)

    pub str_desc_binds : StrDesc P → Option ℕ
    str_desc_binds (str_desc x s) = sig_binds s

    pub str_descs_bind : StrDescs P → Option ℕ
    str_descs_bind no_str_desc = Some 0
    str_descs_bind (and_str_desc d ds) = plus (str_desc_binds d) (str_descs_bind ds)
