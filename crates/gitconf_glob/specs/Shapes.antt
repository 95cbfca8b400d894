-- What the code has read of a pattern's front, as the definitions have it.
use Rattle.std.specs.Prelude.{ℕ, ◌+◌, ◌<◌}
use Rattle.gitconf_glob.specs.declared.front.Element.{Element as Taker}
use Rattle.gitconf_glob.specs.declared.front.Element.TheVariants as taker
use Rattle.gitconf_glob.specs.declared.front.Front.{Front as Shape}
use Rattle.gitconf_glob.specs.declared.front.Front.TheVariants as shape
use Rattle.gitconf_glob.specs.Pattern.{Element, Literal, AnyByte}
use Rattle.gitconf_glob.specs.Cursor.{Front, Nothing, One, Run, Rest, Folders}

-- the element that the code has read
abbrev pub element_of : Taker → Element
element_of (taker.Literal b) = Literal b
element_of taker.AnyByte = AnyByte

-- the front that the code has read
abbrev pub front_of : Shape → Front
front_of shape.Nothing = Nothing
front_of (shape.One element more) = One (element_of element) more
front_of (shape.Run slashes more) = Run slashes more
front_of shape.Rest = Rest
front_of (shape.Folders more) = Folders more

-- the rows that the front's own row is filled from are among the n rows below it
abbrev pub FitsIn : ℕ → Front → Type 0
FitsIn n Nothing = Unit {0}
FitsIn n (One element more) = more < n
FitsIn n (Run slashes more) = more < n
FitsIn n Rest = Unit {0}
FitsIn n (Folders more) = more + 1 < n
