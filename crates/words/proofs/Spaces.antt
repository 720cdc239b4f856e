-- A text that begins with letters, or with a space.
use Rattle.std.proofs.Common.{◌≡◌, ◌==◌, ℕ, Bool, true, false, cond, suc, ◌+◌, ◌<◌, ◌≤◌, List, [], ◌∷◌, ◌++◌, length, get_or, drop, Some, None, Option, IfSome, MatchOption, sym, subst, refl, ap, ◌∙◌, append_assoc, append-nil, length-append, arith, lit<}
use Rattle.std.specs.Option.{option_or}
use Rattle.std.specs.Str.Pattern.{FindsCharPrefix, CutsPrefixes, IsTrimStartMatches}
use Rattle.std.proofs.lemmas.Bool.{ne_eqb}
use Rattle.std.proofs.lemmas.Str.Pattern.{IsSplitOnceResult, drop_at_char, split_parts, strip_prefix_char}
use Rattle.words.specs.Words.{Word, kept, words_after, words_of}
use denote.Ref.{Bor}

-- no byte is a space
abbrev pub Solid : List ℕ → Type 0
Solid xs = (i : ℕ) → i < length xs → get_or xs i 0 ≡ 32 → ⊥

after_letters : (w xs rest : List ℕ) → Solid xs → words_after w (xs ++ rest) ≡ words_after (w ++ xs) rest
after_letters w [] rest h = ap (λ v. words_after v rest) (sym (append-nil w))
after_letters w (x ∷ xs) rest h =
    rw (ne_eqb x 32 (h 0 (omega arith))) (after_letters (w ++ (x ∷ [])) xs rest (λ i l. h (suc i) (omega arith)) ∙ ap (λ v. words_after v rest) (append_assoc w (x ∷ []) xs))

-- a word and a space begin the text
pub word_then_space : (bs xs rest : List ℕ) → bs ≡ xs ++ (32 ∷ rest) → Solid xs → ((more : List ℕ) → bs ≡ 32 ∷ more → ⊥) → words_of bs ≡ xs ∷ words_of rest
word_then_space bs [] rest e h some = absurd (some rest e)
word_then_space bs (x ∷ xs) rest e h some = ap words_of e ∙ after_letters [] (x ∷ xs) (32 ∷ rest) h

-- the whole text is a word
pub word_alone : (bs : List ℕ) → Solid bs → 0 < length bs → words_of bs ≡ bs ∷ []
word_alone [] h some = absurd (omega arith)
word_alone (x ∷ xs) h some = ap words_of (sym (append-nil (x ∷ xs))) ∙ after_letters [] (x ∷ xs) [] h

pub no_word : (bs : List ℕ) → length bs ≡ 0 → words_of bs ≡ []
no_word [] e = refl
no_word (x ∷ xs) e = absurd (omega arith)

-- a text has no more words than bytes
kept_fit : (w : Word) (ws : List Word) → length (kept w ws) ≤ length w + length ws
kept_fit [] ws = omega arith
kept_fit (b ∷ w) ws = omega arith

either_fits : (t : Bool) (vs ws : List Word) (n : ℕ) → length vs ≤ n → length ws ≤ n → length (cond t vs ws) ≤ n
either_fits true vs ws n h i = h
either_fits false vs ws n h i = i

after_fit : (w bs : List ℕ) → length (words_after w bs) ≤ length w + length bs
after_fit w [] = kept_fit w []
after_fit w (b ∷ bs) =
    either_fits (b == 32) _ _ _
    (omega (arith, kept_fit w (words_after [] bs), after_fit [] bs))
    (omega (arith, after_fit (w ++ (b ∷ [])) bs, length-append w (b ∷ [])))

pub words_fit : (bs : List ℕ) → length (words_of bs) ≤ length bs
words_fit bs = omega (arith, after_fit [] bs)

-- spaces that are cut off the front
cut_words : (s r ns : List ℕ) → CutsPrefixes (FindsCharPrefix 32) s ns r → words_of r ≡ words_of s
cut_words s r [] h = ap words_of h
cut_words s r (n ∷ ns) h = ap words_of h.3 ∙ sym (ap words_of (drop_at_char 32 h.0 0 n h.2 (lit< tt))) ∙ cut_words s h.0 ns h.1

pub trimmed_words : (s r : List ℕ) → IsTrimStartMatches (FindsCharPrefix 32) s r → words_of r ≡ words_of s
trimmed_words s r h = cut_words s r h.0.0 h.0.1

not_first : (r : List ℕ) (o : Option ℕ) → FindsCharPrefix 32 r o → IfSome o (λ n. n ≡ 0) → (more : List ℕ) → r ≡ 32 ∷ more → ⊥
not_first r None h empty more e = strip_prefix_char 32 r None h (lit< tt) more e
not_first r (Some n) h empty more e = omega (arith, ap length (subst (λ m. r ≡ 32 ∷ drop m r) empty (drop_at_char 32 r 0 n h (lit< tt))))

-- the first word, of a text that starts with a letter: what stands before the first space, or the whole text
pub first_word : (s r : List ℕ) (o : Option (Bor (List ℕ) × Bor (List ℕ))) (whole : Bor (List ℕ) × Bor (List ℕ))
    → IsTrimStartMatches (FindsCharPrefix 32) s r
    → 0 < length r
    → IsSplitOnceResult 32 r o
    → whole.0.now ≡ r
    → whole.1.now ≡ []
    → MatchOption (option_or o (Some whole)) (words_of s ≡ []) (λ p. words_of s ≡ p.0.now ∷ words_of p.1.now)
first_word s r None whole trimmed some cut all none =
    sym (trimmed_words s r trimmed) ∙ word_alone r (split_parts 32 r None cut (lit< tt)) some ∙ (rw (all, none))
first_word s r (Some p) whole trimmed some cut all none =
    let parts = split_parts 32 r (Some p) cut (lit< tt) in
    sym (trimmed_words s r trimmed) ∙ word_then_space r _ _ parts.0 parts.1 (not_first r trimmed.1.0 trimmed.1.1 trimmed.1.2)
