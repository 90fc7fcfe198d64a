-- How a clue's machine is made, a cell and a block at a time, from the clue's end; and that its masks have room.
use Rattle.std.proofs.Common.{◌≡◌, refl, ap, ap₂, sym, ◌∙◌, subst, Bool, true, false, List, [], ◌∷◌, ℕ, zero, suc, ◌+◌, ◌-◌, ◌*◌, ◌/◌, ◌^◌, ◌≤◌, ◌<◌, eqb, leb, length, get_or, set, take, drop, replicate, bit_or, arith, pow-suc, pow_mono, pow_pos, ext_get_or, take_all, get_or-drop, length-drop, leb-true}
use lib.Bits.{or_lt}
use lib.ListN.{length-replicate, length-map, get_or-map}
use lib.Seq.{drop-cons, drop-drop}
use mir.Val.{bool_byte}
use Rattle.rules.specs.Sets.{Colour}
use Rattle.rules.specs.Lists.{every}
use Rattle.rules.specs.Clues.{Block, Clue, allowed, regular}
use Rattle.rules.specs.Lines.{cells_of, between}
use Rattle.rules.proofs.Tests.{by_equal, and_true}
use Rattle.rules.proofs.Clues.{allowed_out}
use Rattle.rules.proofs.Stretches.{between_same, between_other}
use Rattle.lines.specs.declared.machine.Machine.{Machine}
use Rattle.lines.specs.Machines.{raised, pushed, pushed_all, opened, machine, need, Room, clue_in, first_in, rest_in, Legal, Coloured}
use Rattle.lines.proofs.Accepting.{coloured, between_blanks, by_same, by_other, by_long, machine_long, zeros}

-- ## One cell

-- masks that are each raised
pub raised_is : (masks by : List ℕ) → length by ≡ length masks → ((i : ℕ) → i < length masks → get_or by i 0 ≡ get_or masks i 0 * 2) → by ≡ raised masks
raised_is masks by n each = ext_get_or 0 by (raised masks) (n ∙ sym (length-map masks (λ p. p * 2))) (λ i h. each i (omega arith) ∙ sym (get_or-map (λ p. p * 2) masks i 0))

pub pushed_is : (m : Machine) (by : List ℕ) (c : Colour) → by ≡ raised m.by → record { by = set by c (get_or by c 0 + 1); gap = m.gap * 2; last = m.last * 2 } ≡ pushed c m
unfolding pushed
pushed_is m by c e = rw (e, get_or-map (λ p. p * 2) m.by c 0)

-- ## Room

room_more : (n k : ℕ) (m : Machine) → n ≤ k → Room n m → Room k m
room_more n k m h r =
    let a = pow_mono h in
    let b = pow-suc 2 n in
    let d = pow-suc 2 k in
    record { masks = λ c. omega (arith, r.masks c); gaps = omega (arith, r.gaps); lasts = omega (arith, r.lasts) }

room_pushed : (n : ℕ) (m : Machine) (c : Colour) → c < length m.by → Room n m → Room (suc n) (pushed c m)
unfolding pushed
room_pushed n m c h r =
    let a = pow-suc 2 n in
    let b = pow-suc 2 (suc n) in
    record { masks = λ k. low k; gaps = omega (arith, r.gaps); lasts = omega (arith, r.lasts) }
  where
    v : ℕ
    v = get_or m.by c 0 * 2 + 1

    low : (k : ℕ) → get_or (set (raised m.by) c v) k 0 < 2 ^ suc n
    low k = let a = pow-suc 2 n in by_equal k c
        (λ e. subst (λ x. get_or (set (raised m.by) c v) x 0 < 2 ^ suc n) (sym e) (omega (arith, by_same m.by c h, r.masks c)))
        (λ e. omega (arith, by_other m.by c k v e, r.masks k))

room_all : (n k : ℕ) (m : Machine) (c : Colour) → c < length m.by → Room n m → Room (k + n) (pushed_all (replicate k c) m)
unfolding pushed_all
room_all n zero m c h r = subst (λ x. Room x m) (omega arith) r
room_all n (suc k) m c h r =
    subst (λ x. Room x (pushed c (pushed_all (replicate k c) m))) (omega arith)
    (room_pushed (k + n) (pushed_all (replicate k c) m) c (rw (by_long (replicate k c) m) h) (room_all n k m c h r))

pub pushed_room : (m r : Machine) (c : Colour) (n k : ℕ) → length m.by ≡ 8 → c < 8 → n ≤ 16 → Room (16 - n) m → k ≤ n → r ≡ pushed_all (replicate k c) m → Room 16 r
pushed_room m r c n k b h l room i e =
    subst (Room 16) (sym e) (room_more (k + (16 - n)) 16 (pushed_all (replicate k c) m) (omega arith) (room_all (16 - n) k m c (omega arith) room))

room_opened : (n : ℕ) (m : Machine) → Room n m → Room n (opened m)
unfolding opened
room_opened n m r =
    let a = pow-suc 2 n in
    let b = pow_pos n in
    record { masks = r.masks; gaps = or_lt (suc n) m.gap 1 r.gaps (omega arith); lasts = r.lasts }

room_between : (n : ℕ) (b : Block) (clue : Clue) → Room n (machine clue) → Room (length (between b clue) + n) (pushed_all (between b clue) (machine clue))
room_between n b clue r =
    let w = between_blanks b clue in
    subst (λ l. Room (length l + n) (pushed_all l (machine clue))) (sym w.2)
    (subst (λ x. Room (x + n) (pushed_all (replicate w.0 0) (machine clue))) (sym (length-replicate w.0 0))
    (room_all n w.0 (machine clue) 0 (omega (arith, machine_long clue)) r))

room_machine : (clue : Clue) → Coloured clue → Room (need clue) (machine clue)
unfolding machine need
room_machine [] ok = record { masks = λ c. omega (arith, zeros 8 c); gaps = omega arith; lasts = omega arith }
room_machine (b ∷ clue) ok =
    let q = pushed_all (between b clue) (machine clue) in
    room_opened (b.cells + (length (between b clue) + need clue)) (pushed_all (cells_of b) q)
    (room_all (length (between b clue) + need clue) b.cells q b.colour (omega (arith, by_long (between b clue) (machine clue), machine_long clue, ok.0))
    (room_between (need clue) b clue (room_machine clue ok.1)))

-- ## The blocks that pairs mean

pub clue_none : (bytes : List ℕ) → length bytes < 2 → clue_in bytes ≡ []
unfolding clue_in
clue_none [] h = refl
clue_none (x ∷ []) h = refl
clue_none (x ∷ y ∷ bytes) h = absurd (omega arith)

pub clue_some : (bytes : List ℕ) → 2 ≤ length bytes → clue_in bytes ≡ first_in bytes ∷ rest_in bytes
unfolding clue_in
clue_some [] h = absurd (omega arith)
clue_some (x ∷ []) h = absurd (omega arith)
clue_some (x ∷ y ∷ bytes) h = refl

-- the bytes that a slice has after the first two
pub rest_is : (bytes : List ℕ) → clue_in (take (length bytes - 2) (drop 2 bytes)) ≡ rest_in bytes
rest_is bytes = ap clue_in (take_all (length bytes - 2) (drop 2 bytes) (omega (arith, length-drop 2 bytes)))

pub rest_fits : (bytes : List ℕ) → 2 ≤ length bytes → Coloured (clue_in bytes) × (need (clue_in bytes) ≤ 16) → Coloured (rest_in bytes) × (need (rest_in bytes) ≤ 16)
unfolding need
rest_fits bytes some fits = let e = clue_some bytes some in ((subst Coloured e fits.0).1, omega (arith, ap need e))

pub blanks_none : (bytes : List ℕ) → length bytes < 4 → [] ≡ between (first_in bytes) (rest_in bytes)
blanks_none bytes h = ap (between (first_in bytes)) (sym (clue_none (drop 2 bytes) (omega (arith, length-drop 2 bytes))))

pub blanks_some : (bytes : List ℕ) → 4 ≤ length bytes → replicate (bool_byte (eqb (get_or bytes 0 0) (get_or bytes 2 0))) 0 ≡ between (first_in bytes) (rest_in bytes)
blanks_some bytes h =
    let l = length-drop 2 bytes in
    rw (clue_some (drop 2 bytes) (omega arith), get_or-drop 2 bytes 0 0) (parted (eqb (get_or bytes 0 0) (get_or bytes 2 0)))
  where
    parted : (v : Bool) → ◌≡◌ {A = List ℕ} (replicate (bool_byte v) 0) (elim v [ true ↦ 0 ∷ [] | false ↦ [] ])
    parted true = refl
    parted false = refl

-- a clue that the layout allows needs few cells
need_each : (k : ℕ) (clue : Clue) → every (allowed k) clue ≡ true → need clue ≤ 17 * length clue
unfolding need
need_each k [] e = omega arith
need_each k (b ∷ clue) e =
    let r = and_true (allowed k b) (every (allowed k) clue) e in
    let w = between_blanks b clue in
    omega (arith, (allowed_out k b r.0).3, need_each k clue r.1, ap length w.2, length-replicate {A = ℕ} w.0 0)

pub need_none : need [] ≡ 0
unfolding need
need_none = refl

pub need_some : (bytes : List ℕ) → 2 ≤ length bytes → need (clue_in bytes) ≡ get_or bytes 1 0 + (length (between (first_in bytes) (rest_in bytes)) + need (clue_in (take (length bytes - 2) (drop 2 bytes))))
unfolding need
need_some bytes some = omega (arith, ap need (clue_some bytes some), ap need (rest_is bytes))

-- ## One block

module _ (bytes : List ℕ) (some : 2 ≤ length bytes) (blanks : ℕ) (parting : replicate blanks 0 ≡ between (first_in bytes) (rest_in bytes)) where
  fits : get_or bytes 1 0 + blanks + need (rest_in bytes) ≡ need (clue_in bytes)
  fits = omega (arith, need_some bytes some, ap need (rest_is bytes), ap length parting, length-replicate {A = ℕ} blanks 0)

  module _ (m : Machine) (is : m ≡ machine (rest_in bytes)) (ok : Coloured (clue_in bytes)) (short : need (clue_in bytes) ≤ 16) where
    colours : (get_or bytes 0 0 < 8) × Coloured (rest_in bytes)
    colours = subst Coloured (clue_some bytes some) ok

    room : Room (need (rest_in bytes)) m
    room = subst (Room (need (rest_in bytes))) (sym is) (room_machine (rest_in bytes) colours.1)

    pub blanks_room : (blanks ≤ 16) × Room (16 - blanks) m
    blanks_room = (omega (arith, fits), room_more (need (rest_in bytes)) (16 - blanks) m (omega (arith, fits)) room)

    module _ (q : Machine) (parted : q ≡ pushed_all (replicate blanks 0) m) where
      pub block_room : (get_or bytes 0 0 < 8) × (get_or bytes 1 0 ≤ 16) × Room (16 - get_or bytes 1 0) q
      block_room = (
        colours.0,
        omega (arith, fits),
        room_more (blanks + need (rest_in bytes)) (16 - get_or bytes 1 0) q (omega (arith, fits))
            (subst (Room (blanks + need (rest_in bytes))) (sym parted) (room_all (need (rest_in bytes)) blanks m 0 (omega (arith, ap (λ x. length x.by) is, machine_long (rest_in bytes))) room)),
      )

      pub block_done : (r : Machine) → r ≡ pushed_all (replicate (get_or bytes 1 0) (get_or bytes 0 0)) q → record { by = r.by; gap = bit_or r.gap 1; last = r.last } ≡ machine (clue_in bytes)
      unfolding machine opened
      block_done r t = ap opened (t ∙ ap (pushed_all (cells_of (first_in bytes))) (parted ∙ ap₂ pushed_all parting is)) ∙ ap machine (sym (clue_some bytes some))

-- ## The whole clue

clue_long : (bytes : List ℕ) → length bytes ≤ 2 * length (clue_in bytes) + 1
unfolding clue_in
clue_long [] = omega arith
clue_long (x ∷ []) = omega arith
clue_long (x ∷ y ∷ bytes) = omega (arith, clue_long bytes)

pub legal_pairs : (bytes : List ℕ) → Legal bytes → (length bytes ≤ 33) × Coloured (clue_in bytes)
unfolding regular
legal_pairs bytes legal =
    let r = and_true (leb (length (clue_in bytes)) 16) (every (allowed 7) (clue_in bytes)) legal in
    (omega (arith, clue_long bytes, leb-true (length (clue_in bytes)) 16 r.0), coloured 7 (clue_in bytes) (omega arith) legal)

-- ## Its blocks by their number

-- block i
abbrev pub block_at : List ℕ → ℕ → Block
block_at bytes i = record { colour = get_or bytes (2 * i) 0; cells = get_or bytes (2 * i + 1) 0 }

-- the blocks from block j on
abbrev pub rest_at : List ℕ → ℕ → Clue
rest_at bytes j = clue_in (drop (2 * j) bytes)

drop_pair : (bytes : List ℕ) (i : ℕ) → 2 * i + 1 < length bytes → drop (2 * i) bytes ≡ get_or bytes (2 * i) 0 ∷ get_or bytes (2 * i + 1) 0 ∷ drop (2 * suc i) bytes
drop_pair bytes i h =
    let e : suc (2 * i) ≡ 2 * i + 1 = omega arith in
    let d : suc (2 * i + 1) ≡ 2 * suc i = omega arith in
    drop-cons bytes (2 * i) 0 (omega arith)
    ∙ ap (λ l. get_or bytes (2 * i) 0 ∷ l) (ap (λ n. drop n bytes) e ∙ drop-cons bytes (2 * i + 1) 0 h ∙ ap (λ n. get_or bytes (2 * i + 1) 0 ∷ drop n bytes) d)

rest_cons : (bytes : List ℕ) (i : ℕ) → i < length bytes / 2 → rest_at bytes i ≡ block_at bytes i ∷ rest_at bytes (suc i)
unfolding clue_in
rest_cons bytes i h = ap clue_in (drop_pair bytes i (omega arith))

pub blanks_same : (bytes : List ℕ) (j : ℕ) → j < length bytes / 2 → get_or bytes (2 * (j - 1)) 0 ≡ get_or bytes (2 * j) 0 → 0 ∷ [] ≡ between (block_at bytes (j - 1)) (rest_at bytes j)
blanks_same bytes j l e =
    sym (ap (between (block_at bytes (j - 1))) (rest_cons bytes j l) ∙ between_same (block_at bytes (j - 1)) (block_at bytes j) (rest_at bytes (suc j)) e)

pub blanks_other : (bytes : List ℕ) (j : ℕ) → j < length bytes / 2 → (get_or bytes (2 * (j - 1)) 0 ≡ get_or bytes (2 * j) 0 → ⊥) → [] ≡ between (block_at bytes (j - 1)) (rest_at bytes j)
blanks_other bytes j l n =
    sym (ap (between (block_at bytes (j - 1))) (rest_cons bytes j l) ∙ between_other (block_at bytes (j - 1)) (block_at bytes j) (rest_at bytes (suc j)) n)

-- ## The blocks from a block on, as a slice

-- the bytes from block j on
abbrev pub tail : List ℕ → ℕ → List ℕ
tail bytes j = take (length bytes - 2 * j) (drop (2 * j) bytes)

tail_is : (bytes : List ℕ) (j : ℕ) → tail bytes j ≡ drop (2 * j) bytes
tail_is bytes j = take_all (length bytes - 2 * j) (drop (2 * j) bytes) (omega (arith, length-drop (2 * j) bytes))

pub tail_some : (bytes : List ℕ) (j : ℕ) → j < length bytes / 2 → 2 ≤ length (tail bytes j)
tail_some bytes j h = rw tail_is (let l = length-drop (2 * j) bytes in omega arith)

pub tail_whole : (bytes : List ℕ) (j : ℕ) → clue_in (tail bytes j) ≡ rest_at bytes j
tail_whole bytes j = ap clue_in (tail_is bytes j)

tail_rest : (bytes : List ℕ) (j : ℕ) → rest_in (tail bytes j) ≡ rest_at bytes (suc j)
tail_rest bytes j =
    let e : 2 * j + 2 ≡ 2 * suc j = omega arith in
    ap (λ l. clue_in (drop 2 l)) (tail_is bytes j) ∙ ap clue_in (drop-drop 2 (2 * j) bytes ∙ ap (λ n. drop n bytes) e)

-- the rest of the blocks from the one before
pub tail_down : (bytes : List ℕ) (j : ℕ) → 0 < j → rest_at bytes j ≡ rest_in (tail bytes (j - 1))
tail_down bytes j h = let e : j ≡ suc (j - 1) = omega arith in ap (rest_at bytes) e ∙ sym (tail_rest bytes (j - 1))

-- they are coloured and fit, as all blocks do
pub tail_fits : (bytes : List ℕ) → Coloured (clue_in bytes) × (need (clue_in bytes) ≤ 16) → (j : ℕ) → j ≤ length bytes / 2 → Coloured (clue_in (tail bytes j)) × (need (clue_in (tail bytes j)) ≤ 16)
tail_fits bytes fits j h = subst Fit (sym (tail_whole bytes j)) (go j h)
  where
    Fit : Clue → Type 0
    Fit clue = Coloured clue × (need clue ≤ 16)

    go : (j : ℕ) → j ≤ length bytes / 2 → Fit (rest_at bytes j)
    go zero h = fits
    go (suc j) h = subst Fit (tail_rest bytes j) (rest_fits (tail bytes j) (tail_some bytes j (omega arith)) (subst Fit (sym (tail_whole bytes j)) (go j (omega arith))))
