pub use Rattle.vt_requests.proofs.Ready
pub use Rattle.vt_requests.proofs.Refilled
pub mod StreamRooms
pub mod StreamEnd
pub mod FirstStores
pub mod StoreRooms
pub mod Ending
