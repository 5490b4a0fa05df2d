-- What a line says, and where it can stand.
use Rattle.std.specs.Prelude.{◌<◌, ◌^◌, All}
use Rattle.br_path.specs.Path.{IsPath}
use Rattle.root_image.specs.Lines.{Line, HeadLine, DirLine, LinkLine, FileLine, SameLine, TextLine, BytesLine, EndLine}
use Rattle.root_image.specs.Reading.{Place, AtHead, Between, InFile, InLink, InSame}

-- a line with modes of four octal digits, paths, and bytes
abbrev pub IsLine : Line → Type 0
IsLine HeadLine = Unit {0}
IsLine (DirLine mode path) = (mode < 4096) × IsPath path
IsLine (LinkLine path) = IsPath path
IsLine (FileLine mode size path) = (mode < 4096) × IsPath path
IsLine (SameLine path) = IsPath path
IsLine (TextLine text) = Unit {0}
IsLine (BytesLine bytes) = All (λ byte. byte < 256) bytes
IsLine (EndLine count) = Unit {0}

-- its numbers are below 2^64
abbrev pub IsNumbered : Line → Type 0
IsNumbered HeadLine = Unit {0}
IsNumbered (DirLine mode path) = Unit {0}
IsNumbered (LinkLine path) = Unit {0}
IsNumbered (FileLine mode size path) = size < 2 ^ 64
IsNumbered (SameLine path) = Unit {0}
IsNumbered (TextLine text) = Unit {0}
IsNumbered (BytesLine bytes) = Unit {0}
IsNumbered (EndLine count) = count < 2 ^ 64

-- the lines that can stand where the reader stands
abbrev pub MayStand : Place → Line → Type 0
MayStand AtHead HeadLine = Unit {0}
MayStand Between (DirLine mode path) = Unit {0}
MayStand Between (LinkLine path) = Unit {0}
MayStand Between (FileLine mode size path) = Unit {0}
MayStand Between (SameLine path) = Unit {0}
MayStand Between (EndLine count) = Unit {0}
MayStand (InLink path) (TextLine text) = Unit {0}
MayStand (InSame path) (TextLine text) = Unit {0}
MayStand (InFile path mode size bytes) (BytesLine piece) = Unit {0}
MayStand place line = ⊥
