-- How a run of device calls goes on, for proofs.
pub use Rattle.blk_device.specs.Moments.{started, goes_on, weaken, chain, at_end, no_call, write_keeps, sync_keeps, then_keeps}
