-- A line that a name and the words behind it ask for.
use Rattle.std.proofs.Common.{◌≡◌, ℕ, ◌<◌, ◌≤◌, List, [], ◌∷◌, length, Bool, true, false, cond, Option, Some, None, Ok, Err, ◌⊎◌, inl, inr, refl, ap, sym, ◌∙◌, subst, arith}
use Rattle.std.specs.Prelude.{nat_le}
use Rattle.std.specs.Option.{option_map, option_and_then}
use Rattle.ts_config.specs.declared.setup.TransformLine.{TransformLine}
use Rattle.ts_config.specs.declared.setup.TransformLine.TheVariants as t
use Rattle.ts_config.specs.declared.setup.ConfigKind.TheVariants as k
use Rattle.ts_config.specs.declared.setup.LineMeaning.{LineMeaning}
use Rattle.ts_config.specs.declared.setup.LineMeaning.TheVariants.{Empty}
use Rattle.ts_config.specs.declared.table.PluginName.{PluginName}
use Rattle.ts_config.specs.declared.table.PluginName.TheVariants as n
use Rattle.ts_config.specs.Bytes.{most_limit}
use Rattle.ts_config.specs.Numerals.{byte_of, number_of}
use Rattle.ts_config.specs.Setup.{untexted}
use Rattle.ts_config.specs.Table.{name_of, transform_of, unhurried_of, asked_of, fitting, named_entry, line_entry}
use Rattle.std.proofs.lemmas.Bool.Decides.{nat_tests}

-- what the words behind the name are
abbrev pub Asks : TransformLine → PluginName → List (List ℕ) → Type 0
Asks t.Null name words = (name ≡ n.Null) × (words ≡ [])
Asks (t.Append file text) name words =
    (name ≡ n.Append) × (words ≡ file ∷ []) × (0 < length file) × (text ≡ [])
Asks t.Bnull name words = (name ≡ n.Bnull) × (words ≡ [])
Asks (t.Prepend text) name words = (name ≡ n.Prepend) × (words ≡ text ∷ []) × (length text ≤ 16384)
Asks (t.Map a b) name words =
    (name ≡ n.Map) × ((from to : List ℕ) × (words ≡ from ∷ to ∷ []) × (byte_of from ≡ Some a)
    × (byte_of to ≡ Some b))
Asks (t.Drop b) name words =
    (name ≡ n.Drop) × ((byte : List ℕ) × (words ≡ byte ∷ []) × (byte_of byte ≡ Some b))
Asks (t.Delay m) name words =
    (name ≡ n.Delay) × ((ms : List ℕ) × (words ≡ ms ∷ []) × (number_of 60000 ms ≡ Some m))
Asks (t.Limit m) name words =
    (name ≡ n.Limit) × ((most : List ℕ) × (words ≡ most ∷ []) × (number_of most_limit most ≡ Some m))

some_same : {A : Type 0} {x y : A} → Some x ≡ Some y → x ≡ y
some_same e = cc

pub mapped : {A B : Type 0} (f : A → B) (o : Option A) (y : B) → option_map f o ≡ Some y
    → (x : A) × (o ≡ Some x) × (f x ≡ y)
mapped f None y e = absurd (let wrong : None ≡ Some y = e in cc)
mapped f (Some x) y e = (x, refl, some_same e)

pub chained : {A B : Type 0} (f : A → Option B) (o : Option A) (y : B) → option_and_then f o ≡ Some y
    → (x : A) × (o ≡ Some x) × (f x ≡ Some y)
chained f None y e = absurd (let wrong : None ≡ Some y = e in cc)
chained f (Some x) y e = (x, refl, e)

pub chosen : {A : Type 0} (b : Bool) (x y : A) → cond b (Some x) None ≡ Some y → (b ≡ true) × (x ≡ y)
chosen true x y e = (refl, some_same e)
chosen false x y e = absurd (let wrong : None ≡ Some y = e in cc)

pub asked : (name : PluginName) (words : List (List ℕ)) (line : TransformLine)
    → transform_of name words ≡ Some line → Asks line name words
asked n.Null [] line is = subst (λ l. Asks l n.Null []) (some_same is) (refl, refl)
asked n.Bnull [] line is = subst (λ l. Asks l n.Bnull []) (some_same is) (refl, refl)
asked n.Append ((b ∷ bs) ∷ []) line is =
    subst (λ l. Asks l n.Append ((b ∷ bs) ∷ [])) (some_same is) (refl, refl, omega arith, refl)
asked n.Prepend (text ∷ []) line is =
    let both = chosen (nat_le (length text) 16384) (t.Prepend text) line is in
    let fits : length text ≤ 16384 = grind (arith, nat_tests, both.0) in
    subst (λ l. Asks l n.Prepend (text ∷ [])) both.1 (refl, refl, fits)
asked n.Map (from ∷ to ∷ []) line is =
    let (a, first, inner) = chained (λ x. option_map (λ y. t.Map x y) (byte_of to)) (byte_of from) line is in
    let (b, second, whole) = mapped (λ y. t.Map a y) (byte_of to) line inner in
    subst (λ l. Asks l n.Map (from ∷ to ∷ [])) whole (refl, (from, to, refl, first, second))
asked n.Drop (byte ∷ []) line is =
    let (b, first, whole) = mapped (λ y. t.Drop y) (byte_of byte) line is in
    subst (λ l. Asks l n.Drop (byte ∷ [])) whole (refl, (byte, refl, first))
asked n.Delay (ms ∷ []) line is =
    let (m, first, whole) = mapped (λ y. t.Delay y) (number_of 60000 ms) line is in
    subst (λ l. Asks l n.Delay (ms ∷ [])) whole (refl, (ms, refl, first))
asked n.Limit (most ∷ []) line is =
    let (m, first, whole) = mapped (λ y. t.Limit y) (number_of most_limit most) line is in
    subst (λ l. Asks l n.Limit (most ∷ [])) whole (refl, (most, refl, first))
asked name words line is = absurd (let wrong : None ≡ Some line = is in cc)

-- a line that means something is asked for by a name and the words behind it
pub entry_asked : (words : List (List ℕ)) (e : LineMeaning) → Ok e ≡ line_entry words
    → (e ≡ Empty) ⊎ ((name : PluginName) × (first : List ℕ) × (others : List (List ℕ))
    × (words ≡ first ∷ others) × (asked_of name others ≡ Some e))
entry_asked [] e is = inl (let same : Ok e ≡ Ok Empty = is in cc)
entry_asked (word ∷ others) e is = by_name (name_of word) is
  where
    by_line : (name : PluginName) (o : Option LineMeaning) → asked_of name others ≡ o → Ok e ≡ fitting o
        → (e ≡ Empty) ⊎ ((name : PluginName) × (first : List ℕ) × (rest : List (List ℕ))
        × (word ∷ others ≡ first ∷ rest) × (asked_of name rest ≡ Some e))
    by_line name None none wrong = absurd (let unfit : Ok e ≡ Err k.Arguments = wrong in cc)
    by_line name (Some found) some same =
        let equal : found ≡ e = let both : Ok e ≡ Ok found = same in cc in
        inr (name, word, others, refl, some ∙ ap (λ x. Some x) equal)

    by_name : (o : Option PluginName) → Ok e ≡ named_entry o others
        → (e ≡ Empty) ⊎ ((name : PluginName) × (first : List ℕ) × (rest : List (List ℕ))
        × (word ∷ others ≡ first ∷ rest) × (asked_of name rest ≡ Some e))
    by_name None wrong = absurd (let unknown : Ok e ≡ Err k.Plugin = wrong in cc)
    by_name (Some name) same = by_line name (asked_of name others) refl same

-- the text of a file is empty in it
pub untexted-asked : (line : TransformLine) (name : PluginName) (words : List (List ℕ)) → Asks line name words
    → untexted line ≡ line
untexted-asked t.Null name words asks = refl
untexted-asked (t.Append file text) name words asks = ap (t.Append file) (sym asks.3)
untexted-asked t.Bnull name words asks = refl
untexted-asked (t.Prepend text) name words asks = refl
untexted-asked (t.Map a b) name words asks = refl
untexted-asked (t.Drop b) name words asks = refl
untexted-asked (t.Delay m) name words asks = refl
untexted-asked (t.Limit m) name words asks = refl

-- a transform of request bodies is no delay
abbrev pub is_delay : TransformLine → Bool
is_delay (t.Delay m) = true
is_delay line = false

abbrev names_delay : PluginName → Bool
names_delay n.Delay = true
names_delay name = false

no_delay : (line : TransformLine) (name : PluginName) (words : List (List ℕ)) → Asks line name words
    → names_delay name ≡ false → is_delay line ≡ false
no_delay (t.Delay m) name words (named, given) other = ap names_delay (sym named) ∙ other
no_delay line name words asks other = refl

pub unhurried : (name : PluginName) (words : List (List ℕ)) (line : TransformLine)
    → unhurried_of name words ≡ Some line
    → (transform_of name words ≡ Some line) × (is_delay line ≡ false)
unhurried n.Delay words line is = absurd (let wrong : None ≡ Some line = is in cc)
unhurried name words line is = (is, no_delay line name words (asked name words line is) refl)
