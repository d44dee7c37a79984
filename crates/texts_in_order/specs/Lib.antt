-- What contracts say of texts that are written in order.
pub mod Order
