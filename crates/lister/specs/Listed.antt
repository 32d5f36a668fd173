-- What the lister writes of a file.
use Rattle.std.specs.Prelude.{ℕ, List, [], ◌∷◌, length, nat_le, if◌then◌else◌}
use Rattle.listing.specs.Listing.{listing}

-- too long, and a newline
abbrev pub too_long : List ℕ
too_long = 116 ∷ 111 ∷ 111 ∷ 32 ∷ 108 ∷ 111 ∷ 110 ∷ 103 ∷ 10 ∷ []

-- a file of at most 65,536 bytes is listed
unfoldable pub listed : List ℕ → List ℕ
listed file = if nat_le (length file) 65536 then listing file else too_long
