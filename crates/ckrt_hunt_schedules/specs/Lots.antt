-- What a seed draws by lot (this project's choice). Turn 0 is the seed's own, before the first turn of its run; each turn has 128 lots, of which
-- lots 1 to 64 are those of the threads.
use Rattle.std.specs.Prelude.{ℕ, ◌+◌, ◌*◌, ◌/◌, ◌%◌, ◌==◌, min, Bool, if◌then◌else◌}
use Rattle.ckrt_schedule.specs.Lots.{lot_of, state_behind}

-- a lot of a turn
abbrev pub lot_at : (seed turn place : ℕ) → ℕ
lot_at seed turn place = lot_of seed (128 * turn + place)

-- the state of the generator before the lots of a turn
abbrev pub lots_of : (seed turn : ℕ) → ℕ
lots_of seed turn = state_behind seed (128 * turn)

-- one of 10, 100, .., 1,000,000
abbrev pub scale_by : (pick : ℕ) → ℕ
scale_by pick =
    if pick == 0 then 10
    else if pick == 1 then 100
    else if pick == 2 then 1000
    else if pick == 3 then 10000
    else if pick == 4 then 100000
    else 1000000

-- a lot picks one of them, each as likely as the others
abbrev pub scale_of : (lot : ℕ) → ℕ
scale_of lot = scale_by (lot % 6)

-- a lot picks two of them, and the shorter one counts; near a call the shortest of three
abbrev pub shortest_of : (near : Bool) → (lot : ℕ) → ℕ
shortest_of near lot =
    scale_by (min (lot % 6) (min (lot / 6 % 6) (if near then lot / 36 % 6 else lot % 6)))
