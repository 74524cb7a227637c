-- The words of a list of records in the four tables (docs/TABLES.md), and its bytes in a file.
use Rattle.std.specs.Prelude.{ℕ, zero, suc, ◌+◌, ◌≤◌, ◌≡◌, Bool, true, ◌&&◌, List, [], ◌∷◌, ◌++◌, length, get_or}
use Rattle.records.specs.declared.Fields.{Fields}
use Rattle.records.specs.declared.Record.{Record}
use Rattle.records.specs.declared.Record.TheVariants.{Area, First, Next, Open, Bar, Close, Control}
use Rattle.records.specs.Record.{Decoded}
use Rattle.std.specs.Prelude.{Ok, Err}
use Rattle.records.specs.Record.{kind_of, in_range}
use Rattle.records.specs.Bytes.{bytes_of}
use Rattle.grammar.specs.Lists.{areas_in, corners_in}

-- the plan has the kind of each record
abbrev pub words_of_kind : Record → List ℕ
words_of_kind r = kind_of r ∷ []

-- eight words an area: role, fill rule, alpha, red, green, blue, material, and 0, a word that document 01 leaves free
abbrev pub words_of_fields : Fields → List ℕ
words_of_fields f = f.role ∷ f.rule ∷ f.alpha ∷ f.red ∷ f.green ∷ f.blue ∷ f.material ∷ 0 ∷ []

abbrev pub words_of_area : Record → List ℕ
words_of_area (Area f) = words_of_fields f
words_of_area (First x y) = []
words_of_area (Next x y) = []
words_of_area Open = []
words_of_area Bar = []
words_of_area Close = []
words_of_area (Control x y) = []

-- "corner coordinates lie in lent 32-bit tables": a word a corner
abbrev pub words_of_x : Record → List ℕ
words_of_x (Area f) = []
words_of_x (First x y) = x ∷ []
words_of_x (Next x y) = x ∷ []
words_of_x Open = []
words_of_x Bar = []
words_of_x Close = []
words_of_x (Control x y) = x ∷ []

abbrev pub words_of_y : Record → List ℕ
words_of_y (Area f) = []
words_of_y (First x y) = y ∷ []
words_of_y (Next x y) = y ∷ []
words_of_y Open = []
words_of_y Bar = []
words_of_y Close = []
words_of_y (Control x y) = y ∷ []

-- the words of all records, one after another
unfoldable pub joined : (Record → List ℕ) → List Record → List ℕ
joined f [] = []
joined f (r ∷ rs) = f r ++ joined f rs

-- the four tables' words in use
abbrev pub plan_words : List Record → List ℕ
plan_words rs = length rs ∷ areas_in rs ∷ corners_in rs ∷ joined words_of_kind rs

abbrev pub area_words : List Record → List ℕ
area_words rs = joined words_of_area rs

abbrev pub x_words : List Record → List ℕ
x_words rs = joined words_of_x rs

abbrev pub y_words : List Record → List ℕ
y_words rs = joined words_of_y rs

-- the file
abbrev pub file_of : List Record → List ℕ
file_of rs = joined bytes_of rs

abbrev pub on_good : (Record → List ℕ) → Decoded → List ℕ
on_good f (Ok r) = f r
on_good f (Err x) = []

-- the n words of a table from word i on
abbrev pub words_from : List ℕ → ℕ → ℕ → List ℕ
words_from t i zero = []
words_from t i (suc n) = get_or t i 0 ∷ words_from t (suc i) n

-- a table holds these words from word i on
pub record Has (t : List ℕ) (i : ℕ) (ws : List ℕ) : Type 0 where
  pub room : i + length ws ≤ length t
  pub same : words_from t i (length ws) ≡ ws

abbrev pub all_range : List Record → Bool
all_range [] = true
all_range (r ∷ rs) = in_range r && all_range rs
