-- Paths of files, and their addresses.
use Rattle.std.specs.Prelude.{◌++◌, ◌∷◌, ◌-◌, ◌==◌, ◌||◌, ◌&&◌, ℕ, Bool, not, cond, List, [], codes, drop, flat_map, fold, length, ltb, option_map, slice_get, slice_index, take, unwrap_or}
use Rattle.std.specs.Char.{is_ascii_alphanumeric}
use Rattle.std.specs.List.{join_with_byte, list_any, position_or_len, slice_split}
use Rattle.std.specs.Str.{bytes_eq}
use Rattle.std.specs.Str.Lossy.{utf8_lossy}
use Rattle.percent_encoding.specs.Percent.{percent_decode, percent_encode_byte}

-- a path that begins with `/`
abbrev pub is_rooted : List ℕ → Bool
is_rooted path = slice_index path 0 == 47

-- after these parts a part `..` goes up: the last one is not `..` too, or there is none and the path is rooted
abbrev pub can_rise : Bool → List (List ℕ) → Bool
can_rise rooted parts = unwrap_or (option_map (λ last. not (bytes_eq last (codes ".."))) (slice_get parts (length parts - 1))) rooted

-- the parts that are left after one more: an empty one and `.` add nothing, and `..` goes up where it can
abbrev pub with_part : Bool → List (List ℕ) → List ℕ → List (List ℕ)
with_part rooted parts part =
    cond (bytes_eq part [] || bytes_eq part (codes ".")) parts
    (cond (bytes_eq part (codes "..") && can_rise rooted parts) (take (length parts - 1) parts) (parts ++ (part ∷ [])))

-- the parts of a path that are left, of those between its slashes
abbrev pub left_parts : List ℕ → List (List ℕ)
left_parts path = fold (with_part (is_rooted path)) [] (slice_split (λ b. b == 47) path)

-- a path without empty parts, `.`, and `..` after another part
abbrev pub normal_path : List ℕ → List ℕ
normal_path path = cond (is_rooted path) (47 ∷ []) [] ++ join_with_byte 47 (left_parts path)

-- a file's path, where one that is not rooted lies in this folder
abbrev pub path_in : List ℕ → List ℕ → List ℕ
path_in folder file = cond (is_rooted file || length folder == 0) file (folder ++ (47 ∷ file))

-- what stands from the first slash on, or all where there is none
abbrev pub without_host : List ℕ → List ℕ
without_host rest = let at = position_or_len (λ b. b == 47) rest in cond (ltb at (length rest)) (drop at rest) rest

-- the path in what stands after the scheme of a file's address: its escapes are read, and what is then no UTF-8 is replaced
abbrev pub addressed_path : List ℕ → List ℕ
addressed_path rest = normal_path (utf8_lossy (percent_decode (without_host rest)))

-- an address of a file
abbrev pub is_file : List ℕ → Bool
is_file uri = bytes_eq (codes "file://") (take 7 uri)

-- the path that an address names; one of another kind stands for itself
abbrev pub path_named : List ℕ → List ℕ
path_named uri = cond (is_file uri) (addressed_path (drop 7 uri)) uri

-- a byte that stands for itself in an address: an ASCII letter, a digit, or one of `/-._~`
abbrev pub stands : ℕ → Bool
stands b = ltb b 128 && (is_ascii_alphanumeric b || list_any (λ k. k == b) (codes "/-._~"))

-- the address of the file at a path
abbrev pub address_of : List ℕ → List ℕ
address_of path = codes "file://" ++ flat_map (λ b. cond (stands b) (b ∷ []) (percent_encode_byte b)) path
