pub mod RowsPass
