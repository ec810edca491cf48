-- Writing one text behind another is writing both together; a text written part by part.
use Prim.Native.Nat.{ℕ}
use mathlib.Core.Path.{◌≡◌, refl, sym, ◌∙◌, ap, ap₂, subst}
use mathlib.Core.List.{List, [], ◌∷◌, ◌++◌}
use lib.ListN.{length, set, length-set}
use Rattle.hex_text.specs.Text.{after, end_of, text_at}

pub length_text : (out : List ℕ) (at : ℕ) (s : List ℕ) → length (text_at out at s) ≡ length out
unfolding text_at
length_text out at [] = refl
length_text out at (b ∷ s) = length_text (set out at b) (after (length out) at) s ∙ length-set out at b

pub end_append : (n at : ℕ) (s t : List ℕ) → end_of n at (s ++ t) ≡ end_of n (end_of n at s) t
unfolding end_of
end_append n at [] t = refl
end_append n at (b ∷ s) t = end_append n (after n at) s t

pub text_append : (out : List ℕ) (at : ℕ) (s t : List ℕ) → text_at out at (s ++ t) ≡ text_at (text_at out at s) (end_of (length out) at s) t
unfolding text_at end_of
text_append out at [] t = refl
text_append out at (b ∷ s) t =
    text_append (set out at b) (after (length out) at) s t
    ∙ ap (λ (n : ℕ). text_at (text_at (set out at b) (after (length out) at) s) (end_of n (after (length out) at) s) t) (length-set out at b)

-- the text s from `at` on, and the place after it
pub record Written (out : List ℕ) (at : ℕ) (s : List ℕ) (end : ℕ) (result : List ℕ) : Type 0 where
  pub ends : end ≡ end_of (length out) at s
  pub holds : result ≡ text_at out at s

pub one_byte : {out mid : List ℕ} {n m b : ℕ} → m ≡ after (length out) n → mid ≡ set out n b → Written out n (b ∷ []) m mid
unfolding end_of text_at
one_byte e h = record { ends = e; holds = h }

pub joined : {out mid result : List ℕ} {at n end : ℕ} {s t : List ℕ} → Written out at s n mid → Written mid n t end result → Written out at (s ++ t) end result
joined {out} {mid} {result} {at} {n} {end} {s} {t} v w = record {
  ends = w.ends ∙ ap₂ (λ (l m : ℕ). end_of l m t) (ap length v.holds ∙ length_text out at s) v.ends ∙ sym (end_append (length out) at s t);
  holds = w.holds ∙ ap₂ (λ (o : List ℕ) (m : ℕ). text_at o m t) v.holds v.ends ∙ sym (text_append out at s t);
}

-- of a whole text the part `left` is still to be written, behind n
pub record Left (out₀ : List ℕ) (at : ℕ) (whole : List ℕ) (out : List ℕ) (n : ℕ) (left : List ℕ) : Type 0 where
  pub same : length out ≡ length out₀
  pub ends : end_of (length out₀) at whole ≡ end_of (length out) n left
  pub holds : text_at out₀ at whole ≡ text_at out n left

pub begun : (out : List ℕ) (at : ℕ) (whole : List ℕ) → Left out at whole out at whole
begun out at whole = record { same = refl; ends = refl; holds = refl }

-- one part more
pub further : {out₀ out mid : List ℕ} {at n m : ℕ} {whole s t : List ℕ} → Left out₀ at whole out n (s ++ t) → Written out n s m mid → Left out₀ at whole mid m t
further {out₀} {out} {mid} {at} {n} {m} {whole} {s} {t} l w = record {
  same = kept ∙ l.same;
  ends = l.ends ∙ end_append (length out) n s t ∙ ap₂ (λ (k e : ℕ). end_of k e t) (sym kept) (sym w.ends);
  holds = l.holds ∙ text_append out n s t ∙ ap₂ (λ (o : List ℕ) (e : ℕ). text_at o e t) (sym w.holds) (sym w.ends);
}
  where
    kept : length mid ≡ length out
    kept = ap length w.holds ∙ length_text out n s

pub finished : {out₀ out : List ℕ} {at n : ℕ} {whole : List ℕ} → Left out₀ at whole out n [] → Written out₀ at whole n out
unfolding end_of text_at
finished l = record { ends = sym l.ends; holds = sym l.holds }

pub left_is : {out₀ out : List ℕ} {at n : ℕ} {whole s t : List ℕ} → s ≡ t → Left out₀ at whole out n s → Left out₀ at whole out n t
left_is {out₀} {out} {at} {n} {whole} e l = subst (λ (r : List ℕ). Left out₀ at whole out n r) e l
