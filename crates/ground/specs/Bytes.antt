-- The bytes that the definitions name, as ASCII has them.
use Rattle.std.specs.Prelude.{ℕ}

-- ---- white space
abbrev pub tab : ℕ
tab = 0x09

abbrev pub lf : ℕ
lf = 0x0A

abbrev pub cr : ℕ
cr = 0x0D

abbrev pub space : ℕ
space = 0x20

-- ---- the five that XML 1.0 (section 4.6) has names for: `"`, `&`, `'`, `<` and `>`
abbrev pub quot : ℕ
quot = 0x22

abbrev pub amp : ℕ
amp = 0x26

abbrev pub apos : ℕ
apos = 0x27

abbrev pub lt : ℕ
lt = 0x3C

abbrev pub gt : ℕ
gt = 0x3E

-- ---- `!`, `-`, `/`, `;`, `?`, `[` and `]`
abbrev pub bang : ℕ
bang = 0x21

abbrev pub hyphen : ℕ
hyphen = 0x2D

abbrev pub slash : ℕ
slash = 0x2F

abbrev pub semicolon : ℕ
semicolon = 0x3B

abbrev pub question : ℕ
question = 0x3F

abbrev pub open_bracket : ℕ
open_bracket = 0x5B

abbrev pub close_bracket : ℕ
close_bracket = 0x5D

-- ---- `D` and `d`
abbrev pub upper_d : ℕ
upper_d = 0x44

abbrev pub lower_d : ℕ
lower_d = 0x64
