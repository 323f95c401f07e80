-- What the stored workers keep to, whatever the rule and the map. Assumes nothing.
use Rattle.std.specs.Prelude.{ℕ, Bool, true, not, ◌&&◌, List, length, ◌==◌}
use Rattle.terms.specs.Numbers.{within}
use Rattle.model.specs.Finding.{all}
use Rattle.model.specs.State.{Order, Worker, is_empty, oldest_of}
use Rattle.model.specs.declared.status.Status.{Status}
use Rattle.model.specs.declared.status.Status.TheVariants.{Idle, Held, Parked}
use Rattle.workers.specs.declared.moves.Move.{Move}
use Rattle.workers.specs.declared.moves.Move.TheVariants.{Begin, Park, Resume, Recall, Finish}

-- an order's number is one of a log of n
abbrev pub order_fits : ℕ → Order → Bool
order_fits n o = within 1 n o.number

-- there is an order, and the oldest has this number
abbrev pub on_oldest : List Order → ℕ → Bool
on_oldest orders k = not (is_empty orders) && (oldest_of orders).number == k

-- an open worker is open on its oldest order
abbrev pub status_fits : List Order → Status → Bool
status_fits orders Idle = true
status_fits orders (Held k) = on_oldest orders k
status_fits orders (Parked k) = on_oldest orders k

abbrev pub fits : ℕ → Worker → Bool
fits n x = all (order_fits n) x.orders && status_fits x.orders x.status

abbrev pub order_count_of : Worker → ℕ
order_count_of x = length x.orders

-- a begin is of the oldest order
abbrev pub begins_oldest : List Order → Move → Bool
begins_oldest orders (Begin k) = on_oldest orders k
begins_oldest orders (Park k) = true
begins_oldest orders Resume = true
begins_oldest orders Recall = true
begins_oldest orders (Finish k) = true
