-- The bytes that the grammar of a configuration names, and its limits.
use Rattle.std.specs.Prelude.{◌≡◌, ℕ}

abbrev pub tab : ℕ
tab = 9

abbrev pub space : ℕ
space = 32

-- the `"` round a word
abbrev pub quote_mark : ℕ
quote_mark = 34

-- the `#` before a comment
abbrev pub number_sign : ℕ
number_sign = 35

abbrev pub digit_0 : ℕ
digit_0 = 48

abbrev pub digit_9 : ℕ
digit_9 = 57

abbrev pub letter_a : ℕ
letter_a = 97

abbrev pub letter_f : ℕ
letter_f = 102

abbrev pub letter_x : ℕ
letter_x = 120

-- the byte behind the last that a text may have in ASCII
abbrev pub delete : ℕ
delete = 127

-- the most transform lines of a configuration
abbrev pub most_transforms : ℕ
most_transforms = 16

-- the most transform lines of request bodies
abbrev pub most_requests : ℕ
most_requests = 16

-- the most lines of intercepts
abbrev pub most_intercepts : ℕ
most_intercepts = 64

-- the most tap lines
abbrev pub most_taps : ℕ
most_taps = 1

-- the most lines of hook plugins
abbrev pub most_plugins : ℕ
most_plugins = 64

-- the most sites of a deny list
abbrev pub most_sites : ℕ
most_sites = 64

-- the most bytes of the text of a prepend line, and of the value of a header rule
abbrev pub most_text : ℕ
most_text = 16384

-- the most milliseconds of a delay line
abbrev pub most_delay : ℕ
most_delay = 60000

-- the most bytes that a limit line can pass on
abbrev pub most_limit : ℕ
most_limit = 9223372036854775807

-- the most bytes that an intercept fills a body with
abbrev pub most_fill : ℕ
most_fill = 262144

-- the most bytes that a tap counts
abbrev pub most_tap : ℕ
most_tap = 2147483647

-- the limits of a configuration are these numbers
pub record AreLimits : Type 0 where
  pub transforms : most_transforms ≡ 16
  pub requests : most_requests ≡ 16
  pub intercepts : most_intercepts ≡ 64
  pub plugins : most_plugins ≡ 64
  pub taps : most_taps ≡ 1
  pub sites : most_sites ≡ 64
  pub text : most_text ≡ 16384
  pub delay : most_delay ≡ 60000
  pub limit : most_limit ≡ 9223372036854775807
  pub fill : most_fill ≡ 262144
  pub tap : most_tap ≡ 2147483647
