-- How a script is cut into lines, a line into its text and a comment, and the text into words. Assumes nothing.
use Rattle.std.specs.Prelude.{◌≡◌, ℕ, Bool, not, ◌||◌, List, drop, ◌==◌}
use Rattle.std.specs.Borrow.{Bor}
use Rattle.std.specs.Fn.{Shared, FnReturnsAt}
use Rattle.std.specs.List.{position_or_len}

-- a call of f at a reference to x gives h x
abbrev pub Computes : {F X R : Type 0} → Shared F (Bor X × Unit {0}) R → (X → R) → F → Type 0
Computes {X = X} {R = R} g h f = (x : X) (r : R) → FnReturnsAt g f x r → r ≡ h x

-- a blank: a space, a tab or a carriage return
abbrev pub is_blank : ℕ → Bool
is_blank b = b == 32 || (b == 9 || b == 13)

-- any other byte: words are the longest runs of these
abbrev pub is_no_blank : ℕ → Bool
is_no_blank b = not (is_blank b)

-- a `#`, at which a comment begins, wherever it stands; the comment goes to the line's end
abbrev pub is_comment_sign : ℕ → Bool
is_comment_sign b = b == 35

-- a line feed, at which a line ends
abbrev pub is_line_feed : ℕ → Bool
is_line_feed b = b == 10

-- what begins at the first byte that passes a test, or nothing where none does
abbrev pub from_first : (ℕ → Bool) → List ℕ → List ℕ
from_first p bs = drop (position_or_len p bs) bs
