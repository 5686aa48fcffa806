-- Samples of the patterns: for each place words of its language, one for each way that the pattern has of being met; of a table a
-- word or two stand for the others. Place 49 has no sample: its characters are those of the class file. That the samples are
-- words of their languages is computed by derivatives.
use Rattle.std.specs.Prelude.{ℕ, Bool, true, false, ◌&&◌, ◌||◌, List, [], ◌∷◌}
use Prim.Native.String.{String}
use Rattle.definition.specs.Basics.{Bytes, codes}
use Rattle.definition.specs.Regex.{Re, eps, chr, seq, alt, many, never, In}
use Rattle.definition.specs.Patterns.{pattern}

-- ---- derivatives

-- the empty text is in the language
abbrev pub nullable : Re → Bool
nullable eps = true
nullable (chr p) = false
nullable (seq r q) = nullable r && nullable q
nullable (alt r q) = nullable r || nullable q
nullable (many r) = true

-- r if the test passes, else nothing
abbrev pub if_so : Bool → Re → Re
if_so true r = r
if_so false r = never

-- what may follow a word's first character a
abbrev pub after_char : ℕ → Re → Re
after_char a eps = never
after_char a (chr p) = if_so (p a) eps
after_char a (seq r q) = alt (seq (after_char a r) q) (if_so (nullable r) (after_char a q))
after_char a (alt r q) = alt (after_char a r) (after_char a q)
after_char a (many r) = seq (after_char a r) (many r)

abbrev pub accepts : Re → List ℕ → Bool
accepts r [] = nullable r
accepts r (a ∷ w) = accepts (after_char a r) w

-- ---- the samples

abbrev pub samples : List (ℕ × String)
samples =
    (1, "%splice") ∷ (1, "#eval") ∷ (2, "```f") ∷ (3, "#lang-x") ∷ (4, "__SOURCE_FILE__") ∷ (5, "__LINE__") ∷
    (6, "__FILELINE__") ∷ (7, "  ") ∷ (8, "\r\n") ∷ (8, "\r") ∷ (9, "'a'") ∷ (9, "'\\n'") ∷ (9, "'\\x4f'") ∷
    (9, "'\\u00e9'") ∷ (10, "'a'B") ∷ (11, "`") ∷ (12, "let+") ∷ (13, ";;") ∷ (14, "x'1") ∷ (15, "Ab") ∷ (16, "12") ∷
    (16, "0x1F") ∷ (16, "0o17") ∷ (16, "0B01") ∷ (17, "1uy") ∷ (17, "1z") ∷ (18, "0x1y") ∷ (19, "1Us") ∷ (20, "1s") ∷
    (21, "1ul") ∷ (22, "1l") ∷ (23, "1uL") ∷ (24, "1L") ∷ (25, "1sz") ∷ (26, "1.5R") ∷ (27, "12") ∷ (27, "0x1g") ∷
    (27, "1.5a") ∷ (27, "1e+5a") ∷ (27, "1.5e5a") ∷ (27, "1.5e+5a") ∷ (27, "0x1LFa") ∷ (28, "(*") ∷ (29, "// IN F*:") ∷
    (30, "//") ∷ (31, "\"") ∷ (32, "``a``") ∷ (32, "```a``") ∷ (33, "<|") ∷ (34, "|>") ∷ (35, "..") ∷ (36, "~") ∷
    (36, "}") ∷ (37, "<") ∷ (38, ">=") ∷ (39, "**+") ∷ (40, "|->") ∷ (41, "?=") ∷ (42, "||") ∷ (43, "&&") ∷ (44, "<=") ∷
    (45, "$+") ∷ (46, "^^") ∷ (47, "-+") ∷ (48, "%=") ∷ (50, ".[]<-") ∷ (50, ".[||]") ∷ []

-- each sample is a word of its place's language
abbrev pub Sampled : Bytes → List (ℕ × String) → Type 0
Sampled f [] = Unit {0}
Sampled f (x ∷ xs) = In (pattern f x.0) (codes x.1) × Sampled f xs

abbrev pub all_accepted : Bytes → List (ℕ × String) → Bool
all_accepted f [] = true
all_accepted f (x ∷ xs) = accepts (pattern f x.0) (codes x.1) && all_accepted f xs
