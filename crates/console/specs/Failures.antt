-- What is known of a failure.
use Rattle.std.specs.Prelude.{◌≡◌, ℕ, List}
use Rattle.console.specs.declared.failure.Failure.{Failure}
use Rattle.console.specs.declared.failure.Failure.TheVariants.{Unread}

-- it says that the file of this name cannot be read
abbrev pub IsUnread : {E : Type 0} → List ℕ → Failure E → Type 0
IsUnread name (Unread file error) = file.now ≡ name
IsUnread name _ = ⊥
