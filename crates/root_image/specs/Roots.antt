-- Root file systems: which entries can stand in one, and after which.
use Rattle.std.specs.Prelude.{◌≡◌, ℕ, ◌-◌, ◌<◌, ◌≤◌, ◌^◌, Bool, true, false, ◌&&◌, ◌||◌, ◌==◌, nat_eq, nat_le, List, [], ◌∷◌, ◌++◌, length, All, Option, Some, None}
use Rattle.std.specs.List.{list_any, list_all, slice_get}
use Rattle.std.specs.Cmp.Lexicographic.{pointwise}
use Rattle.std.specs.Ordering.{is_lt}
use Rattle.br_path.specs.Path.{Names, IsPath, path_cmp, parent_of, is_name_byte}
use Rattle.root_image.specs.declared.root.RootEntry.{RootEntry}
use Rattle.root_image.specs.declared.root.RootEntry.TheVariants.{Dir, Link, First, Same}
use Rattle.root_image.specs.Lines.{Entries}

abbrev pub is_path : Names → Names → Bool
is_path = pointwise (pointwise nat_eq)

abbrev pub is_dir : RootEntry → Bool
is_dir (Dir mode) = true
is_dir (Link text) = false
is_dir (First mode bytes) = false
is_dir (Same first) = false

abbrev pub is_first : RootEntry → Bool
is_first (Dir mode) = false
is_first (Link text) = false
is_first (First mode bytes) = true
is_first (Same first) = false

-- a folder stands at the path
abbrev pub has_dir : Entries → Names → Bool
has_dir entries path = list_any (λ entry. is_path entry.0 path && is_dir entry.1) entries

-- a file stands at the path, whole
abbrev pub has_first : Entries → Names → Bool
has_first entries path = list_any (λ entry. is_path entry.0 path && is_first entry.1) entries

abbrev pub last_of : Entries → Option (Names × RootEntry)
last_of entries = slice_get entries (length entries - 1)

-- the path is greater than the last one
abbrev pub rises : Option (Names × RootEntry) → Names → Bool
rises None path = true
rises (Some last) path = is_lt (path_cmp last.0 path)

-- the folder that the path stands in is one of the entries
abbrev pub has_place : Entries → Option Names → Bool
has_place entries None = false
has_place entries (Some parent) = has_dir entries parent

-- a link's text: 1 to 1,024 bytes, each a slash or one that a name may have
abbrev pub is_link_text : List ℕ → Bool
is_link_text text = nat_le 1 (length text) && nat_le (length text) 1024 && list_all (λ byte. byte == 47 || is_name_byte byte) text

-- where an entry can stand: the root first, as a folder; and every other above the last one and in a folder that is there
abbrev pub Stands : Entries → Names → Bool → Type 0
Stands [] path folder = (path ≡ []) × (folder ≡ true)
Stands (entry ∷ entries) path folder = (rises (last_of (entry ∷ entries)) path ≡ true) × (has_place (entry ∷ entries) (parent_of path) ≡ true)

-- what an entry says: modes of four octal digits, texts of links, bytes, and a file that stands before
abbrev pub IsSaid : Entries → RootEntry → Type 0
IsSaid past (Dir mode) = mode < 4096
IsSaid past (Link text) = is_link_text text ≡ true
IsSaid past (First mode bytes) = (mode < 4096) × (length bytes < 2 ^ 63) × All (λ byte. byte < 256) bytes
IsSaid past (Same first) = IsPath first × (has_first past first ≡ true)

-- an entry can stand after others
pub record Fits (past : Entries) (path : Names) (entry : RootEntry) : Type 0 where
  pub legal : IsPath path
  pub stands : Stands past path (is_dir entry)
  pub said : IsSaid past entry

-- each entry can stand after those before it
abbrev pub FitEach : Entries → Entries → Type 0
FitEach past [] = Unit {0}
FitEach past (entry ∷ entries) = Fits past entry.0 entry.1 × FitEach (past ++ entry ∷ []) entries

-- the entries of a root: there is one at least, and each can stand after those before it
pub record IsRoot (entries : Entries) : Type 0 where
  pub filled : 1 ≤ length entries
  pub few : length entries < 2 ^ 63
  pub each : FitEach [] entries
